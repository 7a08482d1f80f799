-- From the uses of a list of rows back to the question: the search's places are the witness's second part.
use mathlib.Core.Path.{◌≡◌, refl, sym, ap, ◌∙◌, subst}
use mathlib.Core.Logic.{inl, inr, ◌↔◌}
use mathlib.Core.Bool.{cond}
use mathlib.Core.Option.{some}
use mathlib.Core.List.{List, [], ◌∷◌, map}
use Prim.Native.Nat.{ℕ, zero, suc, ◌+◌, ◌-◌, ◌<◌, ◌≤◌}
use native.Mathlib.Omega.{arith}
use native.Mathlib.Nat.{add-zero}
use lib.ListN.{length, get_or}
use borrow.Author.Tests.{lt-ltb, le-ltb}
use Rattle.spec.specs.Words.{◌∈◌, Term, var, con, Subgoal, Rule, becomes, each, Mapping}
use Rattle.spec.specs.Summaries.{place, Summaries, Own, old, fresh, kept, in_place, uses, joined, expansion, rewriting}
use Rattle.spec.specs.Order.{ListBefore}
use Rattle.spec.specs.Answer.{AtPlaces, Back, FirstBack}
use Rattle.spec.proofs.Lists.Gathered.{same_map}
use Rattle.spec.proofs.Lists.Counted.{place_in, place-within, from_one}
use Rattle.spec.proofs.Decided.Orders.{bytes_order}
use Rattle.spec.proofs.Decided.WitnessExists.{back-maps, maps-back}
use Rattle.spec.proofs.Lists.At.{get_or-in}
use Rattle.containment.proofs.Carry.{terms-after, terms-same}
use Rattle.containment.proofs.Suit.{terms-agree}
use Rattle.choice_theory.specs.Numbered.{nothing, row_at}
use Rattle.choice_theory.proofs.Targets.{place-uses}
use Rattle.outcomes.specs.Bounds.{Bounds, RowsWithin}
use Rattle.outcomes.proofs.Bounds.{fits-room, fits-alike}
use Rattle.codes.specs.Code.{term_code, own_slot}
use Rattle.task.specs.Task.{Task, Sized}
use Rattle.task.specs.Mapped.{use_of, Mapped, FirstMapped}
use Rattle.search_meaning.specs.Coded.{TermIn, Ready, OverTerms, Sent}
use Rattle.search_meaning.specs.Codings.{own_naming, own_named, home_of, term_coding, read_term, OwnWithin}
use Rattle.search_meaning.specs.Uses.{use_at, ends_of}
use Rattle.search_meaning.specs.HeadBound.{HeadBound}
use Rattle.search_meaning.specs.Tasks.{back_task}
use Rattle.search_meaning.proofs.Read.{read-term, term-solid}
use Rattle.search_meaning.proofs.OverTerms.{sent_is}
use Rattle.search_meaning.proofs.Sizes.{sized}
use Rattle.search_meaning.proofs.Carried.{carried-is, carried_first, carried_none}
use Rattle.search_meaning.proofs.Pairs.{place-paired}
use Rattle.search_meaning.proofs.UseOf.{AllSome, ends-long, use-of-is}
use Rattle.search_meaning.proofs.InUse.{OfUse, use-terms, use-some, uses-fit, uses-few}
use Rattle.search_meaning.proofs.Into.{uses-within}

-- places counted from 1 are places counted from 0, one more; in the same order
pub places-from : {A : Type 0} (all : List A) (bytes : List ℕ) (gs : List A) → AtPlaces all bytes gs → (l : List ℕ) × (map suc l ≡ bytes)
places-from all [] [] h = ([], refl)
places-from all [] (g ∷ gs) h = absurd h
places-from all (n ∷ ns) [] h = absurd h
places-from all (zero ∷ ns) (g ∷ gs) h = absurd (omega (arith, (place-within all zero g h.0).0))
places-from all (suc n ∷ ns) (g ∷ gs) h = let w = places-from all ns gs h.1 in (n ∷ w.0, ap (λ l. suc n ∷ l) w.1)

more-before : (l m : List ℕ) → ListBefore ◌<◌ l m → ListBefore ◌<◌ (map suc l) (map suc m)
more-before [] [] h = h
more-before [] (k ∷ m) h = tt
more-before (j ∷ l) [] h = h
more-before (j ∷ l) (k ∷ m) (inl h) = inl (omega arith)
more-before (j ∷ l) (k ∷ m) (inr h) = inr (ap suc h.0, more-before l m h.1)

-- a slot below 32 stands for a variable of the list, another for a variable of its use
named-old : (u x : ℕ) → x < 32 → own_named u x ≡ var (old x)
named-old u x h = ap (λ b. cond b (var (old x)) (var (fresh u (x - 32)))) (lt-ltb x 32 h)

named-own : (t : Term (Own ℕ)) → OwnWithin t → own_slot t < 64 → own_named (home_of t) (own_slot t) ≡ t
named-own (var (old x)) w h = named-old 0 x w
named-own (var (fresh u x)) w h = ap (λ b. cond b (var (old (32 + x))) (var (fresh u (32 + x - 32)))) (le-ltb (32 + x) 32 (omega arith)) ∙ ap (λ y. var (fresh u y)) (omega arith)
named-own (con k) w h = absurd (omega arith)

own-slots : (x : Own ℕ) → OwnWithin (var x) → own_slot (var x) < 64
own-slots (old x) w = omega arith
own-slots (fresh u x) w = omega arith

module _ (arities : List ℕ) (s : Summaries) (q : Rule ℕ) (bounds : Bounds arities s q) (l : List (Subgoal (Term ℕ))) (rows : RowsWithin s l) where
  abbrev ls : List (List (Subgoal (Term (Own ℕ))))
  ls = uses s 0 l

  -- the use numbered j is that of the j-th row
  use-row : (j : ℕ) (m : List (Subgoal (Term (Own ℕ)))) → place ls (suc j) ≡ some m → (g : Subgoal (Term ℕ)) × (g ∈ l) × (in_place s j g ≡ m)
  use-row j m e =
      let w = place-uses s l 0 j m e in
      (row_at l j, get_or-in nothing l j w.0, ap (λ n. in_place s n (row_at l j)) (sym (add-zero j)) ∙ w.1)

  all-some : AllSome ls
  all-some m i =
      let p = from_one ls i in
      let r = use-row p.0 m p.1 in
      subst (λ z. 1 ≤ length z) r.2 (use-some arities s q bounds l rows r.0 r.1 p.0)

  home-is : (i : ℕ) (c : Subgoal (Term (Own ℕ))) → place (joined ls) (suc i) ≡ some c → (t : Term (Own ℕ)) → t ∈ c.terms → OfUse (use_at ls i) t
  home-is i c e t m =
      let w = place-paired ls i c e in
      let r = use-row (use_at ls i) w.0 w.1 in
      use-terms arities s q bounds l rows r.0 r.1 (use_at ls i) c (subst (λ z. c ∈ z) (sym r.2) (place_in w.0 _ w.2)) t m

  module _ (own b : List ℕ) (owned : length own ≡ length q.body) where
    abbrev p : Task
    p = back_task s q l own

    pub back-sized : length l ≤ 12 → ((k : ℕ) → get_or own k 0 < 64) → Sized p
    back-sized few sets = sized own_naming term_coding (joined ls) (ends_of ls) q.body own record {
      few = omega (arith, uses-few arities s q bounds 0 l rows);
      many = omega (arith, bounds.question.few);
      room = λ g m. fits-room arities bounds.relations g (uses-fit arities s q bounds l rows g m);
      marked = ends-long ls;
      rows = owned;
      sets = sets;
      solid = λ t i. term-solid t;
    }

    module _ (head : HeadBound q.head b) where
      low : (x : ℕ) → var x ∈ q.head → x < 32
      low x m = bounds.question.head (var x) m

      bound-read : (x : ℕ) → var x ∈ q.head → read_term (get_or b x 0) ≡ var x
      bound-read x m = ap read_term (head.bound x m) ∙ read-term (var x) (low x m)

      within : (t : Term (Own ℕ)) → TermIn t (joined ls) → OwnWithin t
      within = uses-within arities s q bounds l rows

      apart : (i : ℕ) (c : Subgoal (Term (Own ℕ))) → place (joined ls) (suc i) ≡ some c → (t : Term (Own ℕ)) → t ∈ c.terms → 32 ≤ own_slot t → own_slot t < 64 → home_of t ≡ use_of p i
      apart i c e (var (old x)) m h o = let low' : x < 32 = home-is i c e (var (old x)) m in absurd (omega arith)
      apart i c e (var (fresh u x)) m h o = (home-is i c e (var (fresh u x)) m).0 ∙ sym (use-of-is p ls all-some refl i (place-within (joined ls) (suc i) c e).1)
      apart i c e (con k) m h o = absurd (omega arith)

      kept-code : (t : Term (Own ℕ)) → TermIn t (joined ls) → 64 ≤ own_slot t → term_code (read_term (own_slot t)) ≡ own_slot t
      kept-code (var x) i h = absurd (omega (arith, own-slots x (within (var x) i)))
      kept-code (con k) i h = ap term_code (read-term (con k) (within (con k) i))

      ready : Ready own_naming term_coding (joined ls) (ends_of ls) q.body own b
      ready = record {
        room = λ g m. fits-room arities bounds.relations g (uses-fit arities s q bounds l rows g m);
        alike = λ g h i j. fits-alike arities g h (uses-fit arities s q bounds l rows g i) (bounds.question.fit h j);
        rows = owned;
        known = λ t i. read-term t (bounds.question.body i.0 i.1 t i.2);
        named = λ t i h. named-own t (within t i) h;
        shared = λ u w x h. named-old u x h ∙ sym (named-old w x h);
        apart = apart;
        kept = kept-code;
        low = λ x o. low x (head.only x o);
        slot = λ x o. ap own_slot (named-old 0 x (low x (head.only x o)));
        given = λ x o. ap term_code (bound-read x (head.only x o)) ∙ sym (head.bound x (head.only x o));
      }

      terms : OverTerms own_naming term_coding old (joined ls) b
      terms = record {
        slots = λ x i. own-slots x (within (var x) i);
        constants = λ k i. omega arith;
        same = λ k i. read-term (con k) (within (con k) i);
        named = λ x o. named-old 0 x (low x (head.only x o));
      }

      sent_back : (places : List ℕ) → Sent term_coding old (joined ls) q.body b places → Back s q (rewriting q l) (map suc places)
      sent_back places m = record {
        targets = map (each (becomes con m.value)) (joined ls);
        named = m.sends;
        mapping = record {
          value = m.value;
          gives = terms-after con kept m.value q.head ∙ terms-agree con (λ x. m.value (old x)) var q.head (λ x i. m.extends x (λ z. omega (arith, head.bound x i)) ∙ bound-read x i) ∙ terms-same q.head;
          sends = refl;
        };
      }

      back-sent : (bytes : List ℕ) → Back s q (rewriting q l) bytes → (places : List ℕ) × (map suc places ≡ bytes) × Sent term_coding old (joined ls) q.body b places
      back-sent bytes t = let w = places-from q.body bytes t.targets t.named in (
        w.0,
        w.1,
        record {
          value = t.mapping.value;
          sends = rw (w.1, t.mapping.sends) t.named;
          extends = λ x o. same_map (becomes con (λ y. t.mapping.value (old y))) (becomes con var) q.head
              (sym (terms-after con kept t.mapping.value q.head) ∙ t.mapping.gives ∙ sym (terms-same q.head)) (var x) (head.only x o) ∙ sym (bound-read x (head.only x o));
        },
      )

      sent-law : (places : List ℕ) → Mapped p b places ↔ Sent term_coding old (joined ls) q.body b places
      sent-law = sent_is own_naming term_coding old (joined ls) (ends_of ls) q.body own b ready terms

      forth : (places : List ℕ) → Mapped p b places → Back s q (rewriting q l) (map suc places)
      forth places m = sent_back places ((sent-law places).0 m)

      back : (bytes : List ℕ) → Back s q (rewriting q l) bytes → (places : List ℕ) × (map suc places ≡ bytes) × Mapped p b places
      back bytes t = let w = back-sent bytes t in (w.0, w.1, (sent-law w.0).1 w.2)

      -- The laws: a mapping's places, the first of them, none of them.
      pub back_is : (places : List ℕ) → Mapped p b places ↔ Back s q (rewriting q l) (map suc places)
      back_is = carried-is bytes_order bytes_order (map suc) more-before forth back

      pub back-first : (places : List ℕ) → FirstMapped p b places ↔ FirstBack s q (rewriting q l) (map suc places)
      back-first = carried_first bytes_order bytes_order (map suc) more-before forth back

      pub back_none : ((places : List ℕ) → Mapped p b places → ⊥) ↔ ((bytes : List ℕ) → Back s q (rewriting q l) bytes → ⊥)
      back_none = carried_none bytes_order bytes_order (map suc) more-before forth back

      -- There are such places exactly if there is a containment mapping.
      pub back_some : ((places : List ℕ) × Mapped p b places) ↔ Mapping (expansion s (rewriting q l)) q
      back_some = (
        λ m. back-maps s q (rewriting q l) (map suc m.0) (forth m.0 m.1),
        λ m. let w = maps-back s q (rewriting q l) m in let t = back w.0 w.1.holds in (t.0, t.2),
      )
