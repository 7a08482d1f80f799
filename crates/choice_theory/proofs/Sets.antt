-- Used rows and rows that may be used: more of them, the same, none at a cost.
use mathlib.Core.Logic.{inl, inr, ⊎_elim, ◌↔◌}
use mathlib.Core.List.Memᴰ
use mathlib.Core.List.{[]}
use Prim.Native.Nat.{ℕ, ◌≤◌, ◌<◌}
use native.Mathlib.Omega.{arith}
use lib.ListN.{length}
use Rattle.spec.specs.Words.{Rule}
use Rattle.spec.specs.Summaries.{Summaries}
use Rattle.choice_theory.specs.Numbered.{WorksOn}
use Rattle.choice_theory.proofs.Works.{works-more}
use Rattle.choice_theory.specs.Can.{CanBy}
use Rattle.spec.proofs.Lists.At.{none_in}
use Rattle.spec.proofs.Decided.Rows.{RowList}

module _ (s : Summaries) (q : Rule ℕ) (rows : RowList) where
  pub can-more : {used used' may may' : ℕ → Type 0} {b c : ℕ} → ((u : ℕ) → u < length rows → used u → used' u) → ((u : ℕ) → u < length rows → may u → may' u) → b ≤ c
      → CanBy s q rows used may b → CanBy s q rows used' may' c
  can-more us ms few o = record {
    more = o.more;
    among = λ u i. let w = o.among u i in (w.0, ms u w.0 w.1);
    few = omega (arith, o.few);
    works = works-more s q rows (λ u h. ⊎_elim (λ j. inl (us u h j)) inr) o.works;
  }

  pub can-same : {used used' may may' : ℕ → Type 0} {b : ℕ} → ((u : ℕ) → u < length rows → used u ↔ used' u) → ((u : ℕ) → u < length rows → may u ↔ may' u)
      → CanBy s q rows used may b ↔ CanBy s q rows used' may' b
  can-same us ms = (can-more (λ u h. (us u h).0) (λ u h. (ms u h).0) (omega arith), can-more (λ u h. (us u h).1) (λ u h. (ms u h).1) (omega arith))

  -- With nothing to spend, the used rows alone.
  pub can-zero : {used may : ℕ → Type 0} → CanBy s q rows used may 0 ↔ WorksOn s q rows used
  can-zero = (
    λ o. works-more s q rows (λ u h. ⊎_elim (λ j. j) (λ j. absurd (none_in o.more u o.few j))) o.works,
    λ w. record { more = []; among = λ u i. absurd (Memᴰ.not-nil i); few = omega arith; works = works-more s q rows (λ u h j. inl j) w },
  )
