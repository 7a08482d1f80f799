-- Theorem 2, second part: a list with the mapping there has a part with it, of as many rows as the question has subgoals.
use mathlib.Core.Path.{◌≡◌, refl, sym, ap, ◌∙◌, subst}
use mathlib.Core.Bool.{Bool, true, false, cond}
use mathlib.Core.Option.{some}
use mathlib.Core.List.Memᴰ
use mathlib.Core.List.{List, [], ◌∷◌, map}
use Prim.Native.Nat.{ℕ, suc, ◌+◌}
use native.Mathlib.Omega.{arith}
use native.Mathlib.Nat.{zero-add, add-zero}
use lib.Dec.{eqb}
use lib.ListN.{length, length-map}
use borrow.Author.Tests.{eqb-true, eqb-false}
use Rattle.spec.specs.Words.{◌∈◌, Term, con, Subgoal, Rule, Listed, becomes, each, Yields, Mapping}
use Rattle.spec.specs.Summaries.{place, Summaries, definition, Own, kept, in_use, in_place, uses, joined, expansion, rewriting}
use Rattle.spec.proofs.Lists.Counted.{place_in}
use Rattle.containment.proofs.Carry.{terms-after, subgoal-after}
use Rattle.containment.proofs.Places.{used, in-use}
use Rattle.containment.proofs.Suit.{Suits, head-becomes}
use Rattle.containment.proofs.Expand.{use-forth, extended}

-- One choice for each member of a list, as many as the list is long.
record Chosen {A B : Type 0} (P : A → B → Type 0) (l : List A) : Type 0 where
  list : List B
  long : length list ≡ length l
  serves : (a : A) → a ∈ l → (b : B) × (b ∈ list) × P a b

chosen : {A B : Type 0} (P : A → B → Type 0) (l : List A) → ((a : A) → a ∈ l → (b : B) × P a b) → Chosen P l
chosen P [] f = record { list = []; long = refl; serves = λ a m. absurd (Memᴰ.not-nil m) }
chosen {A} {B} P (a ∷ l) f = go (f a (Memᴰ.head refl)) (chosen P l (λ c m. f c (Memᴰ.tail m)))
  where
    go : (b : B) × P a b → Chosen P l → Chosen P (a ∷ l)
    go b rest = record { list = b.0 ∷ rest.list; long = ap suc rest.long; serves = serves' }
      where
        serves' : (c : A) → c ∈ (a ∷ l) → (d : B) × (d ∈ (b.0 ∷ rest.list)) × P c d
        serves' c (Memᴰ.head e) = (b.0, Memᴰ.head refl, subst (λ z. P z b.0) (sym e) b.1)
        serves' c (Memᴰ.tail m) = let r = rest.serves c m in (r.0, Memᴰ.tail r.1, r.2)

module _ (s : Summaries) (l : List (Subgoal (Term ℕ))) where
  -- A row of the list, with its use's number.
  record Row : Type 0 where
    by : ℕ
    of : Subgoal (Term ℕ)
    at : place l (suc by) ≡ some of

  abbrev hit_row : Row → Subgoal (Term ℕ)
  hit_row h = h.of

  -- What a use's own variables become: those of the first chosen row with its number, uses counted from i.
  abbrev owns : ℕ → List Row → ℕ → ℕ → Term (Own ℕ)
  owns i [] j x = con 0
  owns i (h ∷ hs) j x = cond (eqb h.by j) (in_use s i h.of x) (owns (suc i) hs j x)

  abbrev OwnedBy : ℕ → List Row → Row → Type 0
  OwnedBy i hs h = (n : ℕ) × (place (map hit_row hs) (suc n) ≡ some h.of) × ((x : ℕ) → owns i hs h.by x ≡ in_use s (n + i) h.of x)

  owned : (i : ℕ) (hs : List Row) (h : Row) → h ∈ hs → OwnedBy i hs h
  owned i [] h m = absurd (Memᴰ.not-nil m)
  owned i (b ∷ hs) h m = go (eqb b.by h.by) refl m (owned (suc i) hs h)
    where
      Step : Bool → Type 0
      Step t = (n : ℕ) × (place (map hit_row (b ∷ hs)) (suc n) ≡ some h.of) × ((x : ℕ) → cond t (in_use s i b.of x) (owns (suc i) hs h.by x) ≡ in_use s (n + i) h.of x)

      go : (t : Bool) → eqb b.by h.by ≡ t → h ∈ (b ∷ hs) → (h ∈ hs → OwnedBy (suc i) hs h) → Step t
      go true e m ih =
          let same : b.by ≡ h.by = eqb-true b.by h.by e in
          let row : b.of ≡ h.of = cc (b.at, h.at) in
          (0, ap some row, λ x. rw (row, zero-add i))
      go false e (Memᴰ.head p) ih = absurd (eqb-false b.by h.by e (ap (λ z. z.by) (sym p)))
      go false e (Memᴰ.tail m) ih = let w = ih m in (suc w.0, w.1, λ x. let n : w.0 + suc i ≡ suc w.0 + i = omega arith in w.2 x ∙ ap (λ z. in_use s z h.of x) n)

-- Of the list's rows some, as many as the question has subgoals, with the mapping there.
pub record Part (s : Summaries) (q : Rule ℕ) (l : List (Subgoal (Term ℕ))) : Type 0 where
  pub list : List (Subgoal (Term ℕ))
  pub long : length list ≡ length q.body
  pub within : (g : Subgoal (Term ℕ)) → g ∈ list → g ∈ l
  pub there : Mapping q (expansion s (rewriting q list))

-- The rows that the question's subgoals land in.
module _ (s : Summaries) (q : Rule ℕ) (l : List (Subgoal (Term ℕ))) (suits : (g : Subgoal (Term ℕ)) → g ∈ l → Suits s g) (there : Mapping q (expansion s (rewriting q l))) where
  abbrev LandsIn : Subgoal (Term ℕ) → Row s l → Type 0
  LandsIn g h = each (becomes con there.value) g ∈ in_place s h.by h.of

  lands : (g : Subgoal (Term ℕ)) → g ∈ q.body → (h : Row s l) × LandsIn g h
  lands g m = let w = used s 0 l _ (there.holds g m) in (record { by = w.by; of = w.of; at = w.at }, rw add-zero at w.inside)

  abbrev hit : Chosen LandsIn q.body
  hit = chosen LandsIn q.body lands

  abbrev rows : List (Subgoal (Term ℕ))
  rows = map (hit_row s l) hit.list

  abbrev ξ : Own ℕ → Term (Own ℕ)
  ξ = extended kept (owns s l 0 hit.list)

  -- A hit row's use in the whole becomes its use in the part.
  moved : (h : Row s l) → h ∈ hit.list → (c : Subgoal (Term (Own ℕ))) → c ∈ in_place s h.by h.of → each (becomes con ξ) c ∈ joined (uses s 0 rows)
  moved h m c i = use-forth con s (Listed (joined (uses s 0 rows))) ξ h.by h.of y (λ x. o.2 x ∙ ap (λ n. in_use s n h.of x) (add-zero o.0)) c i
    where
      o : OwnedBy s l 0 hit.list h
      o = owned s l 0 hit.list h m

      y : Yields con (definition s h.of.relation) (Listed (joined (uses s 0 rows))) (map (becomes con kept) h.of.terms)
      y = record {
        value = in_use s o.0 h.of;
        gives = head-becomes s o.0 h.of (suits h.of (place_in l (suc h.by) h.at));
        holds = λ b j. in-use s 0 rows _ record { by = o.0; of = h.of; at = o.1; inside = rw add-zero (Memᴰ.map (each (becomes con (in_use s o.0 h.of))) j) };
      }

  pub part : Part s q l
  part = record {
    list = rows;
    long = length-map hit.list (hit_row s l) ∙ hit.long;
    within = λ g m. let w = Memᴰ.of_map (hit_row s l) hit.list m in Memᴰ.cast (sym w.2) (place_in l (suc w.0.by) w.0.at);
    there = record {
      value = λ x. becomes con ξ (there.value x);
      gives = sym (terms-after con there.value ξ q.head) ∙ ap (map (becomes con ξ)) there.gives ∙ terms-after con kept ξ q.head;
      holds = λ g m. let w = hit.serves g m in Memᴰ.cast (sym (subgoal-after con there.value ξ g)) (moved w.0 w.1 (each (becomes con there.value) g) w.2);
    };
  }
