-- The bounds of a book's size and count, as the loading tests them, and refusals of the contents as they are told.
use mathlib.Core.Path.{◌≡◌, sym, refl, subst}
use mathlib.Core.Logic.{inl, inr, ⊎_elim}
use mathlib.Core.List.{List}
use Prim.Native.Nat.{ℕ, ◌<◌, ◌≤◌}
use native.Mathlib.Omega.{arith}
use lib.ListN.{length}
use Rattle.std.specs.Prelude.{Err}
use Rattle.spec.specs.BookLayout.{most_summaries}
use Rattle.spec.specs.Contents.{count}
use Rattle.spec.specs.Loading.{LoadSays}
use Rattle.spec.specs.Refusals.{of_book, longest, Fault2, Fault3, Refusal, two, three}
use Rattle.spec.specs.Told.{told_of}
use Rattle.spec.specs.declared.Refused.{Refused}

module _ (book : List ℕ) where
  pub told : {k : ℕ} (e : Refused) → told_of e ≡ of_book k → Refusal book (of_book k) → LoadSays book (Err e)
  told e is f = subst (λ r. Refusal book r × (r.place ≡ 0)) (sym is) (f, refl)

  pub too_short : length book < 2 → Refusal book (of_book 2)
  too_short h = two (inl h)

  pub too_long : 25040 < length book → Refusal book (of_book 2)
  unfolding longest
  too_long h = two (inr h)

  pub right-size : 2 ≤ length book → length book ≤ 25040 → Fault2 book → ⊥
  unfolding longest
  right-size l h f = ⊎_elim (λ s. omega arith) (λ s. omega arith) f

  pub too_many : (n : ℕ) → (Fault2 book → ⊥) → n ≡ count book → 64 < n → Refusal book (of_book 3)
  too_many n s e h = three s (omega arith)

  pub few-counted : (n : ℕ) → n ≡ count book → n ≤ 64 → Fault3 book → ⊥
  few-counted n e h f = omega arith

  pub few-said : (n : ℕ) → n ≡ count book → n ≤ 64 → count book ≤ most_summaries
  few-said n e h = omega arith
