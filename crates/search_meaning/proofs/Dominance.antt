-- A row's use goes into another's, on codes and over terms.
use mathlib.Core.Path.{◌≡◌, refl, sym, ap, ◌∙◌}
use mathlib.Core.Logic.{◌↔◌}
use mathlib.Core.List.Memᴰ
use mathlib.Core.List.{List, map}
use Prim.Native.Nat.{ℕ, suc, ◌<◌, ◌≤◌}
use native.Mathlib.Omega.{arith}
use native.Mathlib.Nat.{add-zero}
use lib.ListN.{length, get_or, length-map}
use Rattle.spec.specs.Words.{◌∈◌, Term, var, con, Subgoal, Rule, AllFit, becomes, each}
use Rattle.spec.specs.Summaries.{Summaries, Own, old, fresh, kept, in_place}
use Rattle.spec.proofs.Lists.Gathered.{map_same}
use Rattle.spec.proofs.Lists.Counted.{place_in}
use Rattle.spec.proofs.Lists.At.{get_or-in, in-get_or, get_or-place, choices, map_get}
use Rattle.containment.proofs.Places.{in-use}
use Rattle.containment.proofs.Expand.{extended}
use Rattle.choice_theory.specs.Numbered.{nothing, row_at}
use Rattle.choice_theory.specs.Dominates.{Dominates}
use Rattle.outcomes.specs.Bounds.{Bounds, RowsWithin}
use Rattle.outcomes.proofs.Bounds.{fits-room, fits-alike}
use Rattle.codes.specs.Code.{own_code, kept_slot}
use Rattle.task.specs.Task.{Task, Sized}
use Rattle.task.specs.Mapped.{Mapped}
use Rattle.search_meaning.specs.Coded.{Bound, TermIn, Ready, Valued}
use Rattle.search_meaning.specs.Codings.{kept_naming, own_coding, read_own}
use Rattle.search_meaning.specs.Tasks.{use_task}
use Rattle.search_meaning.proofs.AtPlaces.{Indexed, places-indexed, indexed-places}
use Rattle.search_meaning.proofs.General.{mapped-is}
use Rattle.search_meaning.proofs.Read.{read-own, own-solid}
use Rattle.search_meaning.proofs.Sizes.{sized}
use Rattle.search_meaning.proofs.InUse.{OfUse, of-use-within, use-terms, use-few, uses-fit}

-- the slot of a use's own variable stands for it, and no other code is a slot
kept-named : (u : ℕ) (t : Term (Own ℕ)) → OfUse u t → kept_slot t < 64 → var (fresh u (kept_slot t)) ≡ t
kept-named u (var (old x)) w h = absurd (omega arith)
kept-named u (var (fresh v x)) w h = ap (λ z. var (fresh z x)) (sym w.0)
kept-named u (con k) w h = absurd (omega arith)

kept_low : (u : ℕ) (t : Term (Own ℕ)) → OfUse u t → 32 ≤ kept_slot t → kept_slot t < 64 → ⊥
kept_low u (var (old x)) w h o = omega arith
kept_low u (var (fresh v x)) w h o = omega (arith, w.1)
kept_low u (con k) w h o = omega arith

kept_back : (u : ℕ) (t : Term (Own ℕ)) → OfUse u t → 64 ≤ kept_slot t → read_own (kept_slot t) ≡ t
kept_back u (var (old x)) w h = read-own (var (old x)) w
kept_back u (var (fresh v x)) w h = absurd (omega (arith, w.1))
kept_back u (con k) w h = read-own (con k) w

kept-code : (u : ℕ) (t : Term (Own ℕ)) → OfUse u t → 64 ≤ kept_slot t → own_code t ≡ kept_slot t
kept-code u (var (old x)) w h = refl
kept-code u (var (fresh v x)) w h = absurd (omega (arith, w.1))
kept-code u (con k) w h = refl

-- what the rows' terms and the use's own variables become
abbrev into : (ℕ → Term (Own ℕ)) → Term (Own ℕ) → Term (Own ℕ)
into value = becomes con (extended kept (λ u. value))

module _ (arities : List ℕ) (s : Summaries) (q : Rule ℕ) (bounds : Bounds arities s q) (rows : List (Subgoal (Term ℕ))) (good : RowsWithin s rows)
    (d r : ℕ) (hd : d < length rows) (hr : r < length rows) (lasts own b : List ℕ) (owned : length own ≡ length (in_place s d (row_at rows d))) where
  abbrev src : List (Subgoal (Term (Own ℕ)))
  src = in_place s r (row_at rows r)

  abbrev tgt : List (Subgoal (Term (Own ℕ)))
  tgt = in_place s d (row_at rows d)

  abbrev p : Task
  p = use_task s r (row_at rows r) d (row_at rows d) lasts own

  module _ (u : ℕ) (h : u < length rows) where
    row_in : row_at rows u ∈ rows
    row_in = get_or-in nothing rows u h

    fits : AllFit arities (in_place s u (row_at rows u))
    fits c m = uses-fit arities s q bounds rows good c (in-use s 0 rows c record { by = u; of = row_at rows u; at = get_or-place nothing rows u h; inside = rw add-zero m })

    terms-of : (t : Term (Own ℕ)) → TermIn t (in_place s u (row_at rows u)) → OfUse u t
    terms-of t i = use-terms arities s q bounds rows good (row_at rows u) row_in u i.0 i.1 t i.2

    few : length (in_place s u (row_at rows u)) ≤ 8
    few = use-few arities s q bounds rows good (row_at rows u) row_in u

  pub use-sized : length lasts ≡ length src → ((k : ℕ) → get_or own k 0 < 64) → Sized p
  use-sized marked sets = sized (kept_naming r) own_coding src lasts tgt own record {
    few = omega (arith, few r hr);
    many = omega (arith, few d hd);
    room = λ g m. fits-room arities bounds.relations g (fits r hr g m);
    marked = marked;
    rows = owned;
    sets = sets;
    solid = λ t i. own-solid t;
  }

  -- nothing is bound at the start
  module _ (free : (x : ℕ) → Bound b x → ⊥) where
    ready : Ready (kept_naming r) own_coding src lasts tgt own b
    ready = record {
      room = λ g m. fits-room arities bounds.relations g (fits r hr g m);
      alike = λ g h i j. fits-alike arities g h (fits r hr g i) (fits d hd h j);
      rows = owned;
      known = λ t i. read-own t (of-use-within d t (terms-of d hd t i));
      named = λ t i. kept-named r t (terms-of r hr t i);
      shared = λ u w x h. refl;
      apart = λ i g e t m h o. absurd (kept_low r t (terms-of r hr t (g, place_in src (suc i) e, m)) h o);
      kept = λ t i h. ap own_code (kept_back r t (terms-of r hr t i) h) ∙ kept-code r t (terms-of r hr t i) h;
      low = λ x o. absurd (free x o);
      slot = λ x o. absurd (free x o);
      given = λ x o. absurd (free x o);
    }

    valued-dominates : (l : List ℕ) → Valued (kept_naming r) own_coding src tgt b l → Dominates s rows d r
    valued-dominates l m = record { value = value; holds = holds }
      where
        value : ℕ → Term (Own ℕ)
        value x = m.value (var (fresh r x))

        same : (t : Term (Own ℕ)) → TermIn t src → OfUse r t → into value t ≡ m.value t
        same (var (old x)) i w = sym (m.keeps (var (old x)) i (omega arith) ∙ kept_back r (var (old x)) w (omega arith))
        same (var (fresh v x)) i w = ap (λ z. m.value (var (fresh z x))) (sym w.0)
        same (con k) i w = sym (m.keeps (con k) i (omega arith) ∙ kept_back r (con k) w (omega arith))

        at : Indexed nothing tgt l (map (each m.value) src)
        at = places-indexed nothing tgt l (map (each m.value) src) m.sends

        stands : (c : Subgoal (Term (Own ℕ))) → c ∈ map (each m.value) src → c ∈ tgt
        stands c i = let k = in-get_or nothing (map (each m.value) src) i in Memᴰ.cast (sym (at.stands k.0 k.1 ∙ k.2)) (get_or-in nothing tgt (get_or l k.0 0) (at.within k.0 k.1))

        holds : (c : Subgoal (Term (Own ℕ))) → c ∈ src → each (into value) c ∈ tgt
        holds c i =
            let e : each (into value) c ≡ each m.value c = λ j. record { relation = c.relation; terms = map_same (into value) m.value c.terms (λ t k. same t (c, i, k) (terms-of r hr t (c, i, k))) j } in
            Memᴰ.cast e (stands (each m.value c) (Memᴰ.map (each m.value) i))

    dominates-valued : Dominates s rows d r → (l : List ℕ) × Valued (kept_naming r) own_coding src tgt b l
    dominates-valued m = (
      ks.0,
      record {
        value = into m.value;
        sends = indexed-places nothing tgt ks.0 (map (each (into m.value)) src) record { long = ks.1 ∙ sym long; within = λ i h. (ks.2 i (omega (arith, long))).0; stands = λ i h. (ks.2 i (omega (arith, long))).1 };
        keeps = λ t i h. keeps t i (terms-of r hr t i) h;
        extends = λ x o. absurd (free x o);
      },
    )
      where
        long : length (map (each (into m.value)) src) ≡ length src
        long = length-map src (each (into m.value))

        Goes : ℕ → ℕ → Type 0
        Goes i k = (k < length tgt) × (get_or tgt k nothing ≡ get_or (map (each (into m.value)) src) i nothing)

        goes : (i : ℕ) → i < length src → (k : ℕ) × Goes i k
        goes i h =
            let w = in-get_or nothing tgt (m.holds (get_or src i nothing) (get_or-in nothing src i h)) in
            (w.0, (w.1, w.2 ∙ sym (map_get (each (into m.value)) src i nothing nothing h)))

        ks : (ks : List ℕ) × (length ks ≡ length src) × ((i : ℕ) → i < length src → Goes i (get_or ks i 0))
        ks = choices Goes (length src) goes

        keeps : (t : Term (Own ℕ)) → TermIn t src → OfUse r t → 64 ≤ kept_slot t → into m.value t ≡ read_own (kept_slot t)
        keeps (var (old x)) i w h = sym (kept_back r (var (old x)) w h)
        keeps (var (fresh v x)) i w h = absurd (omega (arith, w.1))
        keeps (con k) i w h = sym (kept_back r (con k) w h)

    -- The law.
    pub dominates-is : ((l : List ℕ) × Mapped p b l) ↔ Dominates s rows d r
    dominates-is = (
      λ m. valued-dominates m.0 ((mapped-is (kept_naming r) own_coding src lasts tgt own b ready m.0).0 m.1),
      λ o. let w = dominates-valued o in (w.0, (mapped-is (kept_naming r) own_coding src lasts tgt own b ready w.0).1 w.1),
    )
