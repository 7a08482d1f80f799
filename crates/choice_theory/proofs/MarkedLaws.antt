-- The sets of rows along the pass: at its start, a row taken, a row passed over; what they say of completing the rows taken.
use mathlib.Core.Path.{◌≡◌}
use mathlib.Core.Logic.{◌⊎◌, inl, inr, ⊎_elim, ◌↔◌}
use mathlib.Core.List.Memᴰ
use mathlib.Core.List.{List, [], ◌∷◌, ◌++◌}
use Prim.Native.Nat.{ℕ, ◌+◌, ◌≤◌, ◌<◌}
use native.Mathlib.Omega.{arith}
use lib.ListN.{length}
use Rattle.spec.specs.Words.{Rule}
use Rattle.spec.specs.Summaries.{Summaries}
use Rattle.spec.proofs.Lists.Strict.{number_order}
use Rattle.spec.proofs.Lists.Sorted.{sorted, sorted-in, sorted-out, sorted-rising}
use Rattle.spec.proofs.Decided.Rows.{RowList}
use Rattle.containment.proofs.Normal.{sorted-few}
use Rattle.choice_theory.proofs.Works.{works-more}
use Rattle.choice_theory.specs.Can.{Can, CanBy}
use Rattle.choice_theory.specs.Marked.{Marked}

-- Before the first row: none is used, all may be.
pub marked_start : (n : ℕ) (used may : ℕ → Type 0) → ((u : ℕ) → u < n → used u → ⊥) → ((u : ℕ) → u < n → may u) → Marked n used may [] 0
marked_start n used may none all = record {
  used_in = λ u h i. absurd (none u h i);
  used_out = λ u h i. absurd (Memᴰ.not-nil i);
  may_in = λ u h i. omega arith;
  may_out = λ u h i. all u h;
}

past : (r u : ℕ) → r ≤ u → (u ≡ r → ⊥) → r + 1 ≤ u
past r u h e = omega arith

module _ {n : ℕ} {used may : ℕ → Type 0} {p : List ℕ} {r : ℕ} (m : Marked n used may p r) where
  -- The row r is used, and no longer may be.
  pub marked-taken : (used' may' : ℕ → Type 0) → ((u : ℕ) → u < n → used' u ↔ (used u ⊎ (u ≡ r))) → ((u : ℕ) → u < n → may' u ↔ (may u × (u ≡ r → ⊥))) → Marked n used' may' (p ++ (r ∷ [])) (r + 1)
  marked-taken used' may' us ms = record {
    used_in = λ u h i. ⊎_elim (λ j. Memᴰ.append_left (r ∷ []) (m.used_in u h j)) (λ e. Memᴰ.append_right p (Memᴰ.head e)) ((us u h).0 i);
    used_out = λ u h i. (us u h).1 (⊎_elim (λ j. inl (m.used_out u h j)) (λ j. inr (Memᴰ.eq_of_singleton j)) (Memᴰ.append_cases p i));
    may_in = λ u h i. let w = (ms u h).0 i in past r u (m.may_in u h w.0) w.1;
    may_out = λ u h i. (ms u h).1 (m.may_out u h (omega arith), λ e. omega arith);
  }

  -- The row r is passed over.
  pub marked-passed : (used' may' : ℕ → Type 0) → ((u : ℕ) → u < n → used' u ↔ used u) → ((u : ℕ) → u < n → may' u ↔ (may u × (u ≡ r → ⊥))) → Marked n used' may' p (r + 1)
  marked-passed used' may' us ms = record {
    used_in = λ u h i. m.used_in u h ((us u h).0 i);
    used_out = λ u h i. (us u h).1 (m.used_out u h i);
    may_in = λ u h i. let w = (ms u h).0 i in past r u (m.may_in u h w.0) w.1;
    may_out = λ u h i. (ms u h).1 (m.may_out u h (omega arith), λ e. omega arith);
  }

module _ (s : Summaries) (q : Rule ℕ) (rows : RowList) {used may : ℕ → Type 0} {p : List ℕ} {from : ℕ} (m : Marked (length rows) used may p from) (b : ℕ) where
  by-can : CanBy s q rows used may b → Can s q rows p from b
  by-can c = record {
    more = sorted number_order c.more;
    rising = sorted-rising number_order c.more;
    later = λ u i. let w = c.among u (sorted-out number_order c.more u i) in (m.may_in u w.0 w.1, w.0);
    few = omega (arith, c.few, sorted-few number_order c.more);
    works = works-more s q rows (λ u h. ⊎_elim (λ j. Memᴰ.append_left (sorted number_order c.more) (m.used_in u h j)) (λ j. Memᴰ.append_right p (sorted-in number_order c.more u j))) c.works;
  }

  can-by : Can s q rows p from b → CanBy s q rows used may b
  can-by c = record {
    more = c.more;
    among = λ u i. let w = c.later u i in (w.1, m.may_out u w.1 w.0);
    few = c.few;
    works = works-more s q rows (λ u h i. ⊎_elim (λ j. inl (m.used_out u h j)) (λ j. inr j) (Memᴰ.append_cases p i)) c.works;
  }

  -- The sets say whether the rows taken can be completed.
  pub marked-can : CanBy s q rows used may b ↔ Can s q rows p from b
  marked-can = (by-can, can-by)
