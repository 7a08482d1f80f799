-- Where each use begins: one row after the other.
use mathlib.Core.Path.{◌≡◌, sym, ap, ap₂, ◌∙◌}
use mathlib.Core.List.{List, [], ◌∷◌, ◌++◌}
use Prim.Native.Nat.{ℕ, ◌+◌, ◌<◌, ◌≤◌}
use native.Mathlib.Omega.{arith}
use lib.ListN.{length, take, set, length-append, length-set}
use lib.Seq.{take_all, drop-set-lt}
use Rattle.spec.specs.Words.{Term, Subgoal}
use Rattle.spec.specs.Summaries.{in_place, uses, joined}
use Rattle.spec.specs.Book.{Book, admitted_of}
use Rattle.spec.specs.Given.{at_front}
use Rattle.choice_theory.specs.Numbered.{row_at}
use Rattle.rule_codes.proofs.Stores.{front-more}
use Rattle.book_codes.specs.RowsGiven.{RowsOf}
use Rattle.book_codes.specs.Insides.{starts}
use Rattle.book_codes.specs.AllUses.{AllStarts}
use Rattle.book_codes.proofs.Growing.{uses-take, uses-many, GoalsReached, Goals}

module _ {A : Type 0} where
  pub starts-long : (at : ℕ) (ls : List (List A)) → length (starts at ls) ≡ length ls + 1
  starts-long at [] = omega arith
  starts-long at (m ∷ ls) = omega (arith, starts-long (at + length m) ls)

  -- one list more
  starts_more : (at : ℕ) (ls : List (List A)) (m : List A) → starts at (ls ++ (m ∷ [])) ≡ starts at ls ++ ((at + length (joined ls) + length m) ∷ [])
  starts_more at [] m = let e : at + length m ≡ at + 0 + length m = omega arith in ap (λ k. at ∷ k ∷ []) e
  starts_more at (k ∷ ls) m =
      let e : at + length k + length (joined ls) + length m ≡ at + length (k ++ joined ls) + length m = omega (arith, length-append k (joined ls)) in
      ap (◌∷◌ at) (starts_more (at + length k) ls m ∙ ap (λ v. starts (at + length k) ls ++ (v ∷ [])) e)

module _ (book rows : List ℕ) (n : ℕ) where
  -- The beginnings of the first r rows' uses, and of the next.
  pub record Begun (before : List ℕ) (r : ℕ) (after : List ℕ) : Type 0 where
    pub long : length after ≡ length before
    pub is : (b : Book) (l : List (Subgoal (Term ℕ))) → RowsOf book rows n b l → after ≡ at_front (starts 0 (uses (admitted_of b) 0 (take r l))) before

module _ {book rows : List ℕ} {n : ℕ} where
  pub begun-goes : {before after : List ℕ} {r at goals : ℕ} → r < n → n + 1 ≤ length before → GoalsReached book rows n r at → Goals book rows n r goals
      → Begun book rows n before r after → Begun book rows n before (r + 1) (set after (r + 1) (at + goals))
  begun-goes {before} {after} {r} {at} {goals} turn room reached g s = record { long = length-set after (r + 1) (at + goals) ∙ s.long; is = is }
    where
      is : (b : Book) (l : List (Subgoal (Term ℕ))) → RowsOf book rows n b l → set after (r + 1) (at + goals) ≡ at_front (starts 0 (uses (admitted_of b) 0 (take (r + 1) l))) before
      is b l w =
          let all = uses (admitted_of b) 0 (take r l) in
          let m = in_place (admitted_of b) r (row_at l r) in
          let front = starts 0 all in
          let many = uses-many w r (omega arith) in
          let size : length front ≡ r + 1 = omega (arith, starts-long 0 all) in
          let v : at + goals ≡ 0 + length (joined all) + length m = omega (arith, reached.is b l w, g.is b l w) in
          ap₂ (λ a k. set a k (at + goals)) (s.is b l w) (sym size) ∙ front-more front ((at + goals) ∷ []) before (omega arith)
          ∙ ap (λ f. at_front f before) (ap (λ k. front ++ (k ∷ [])) v ∙ sym (starts_more 0 all m) ∙ ap (starts 0) (sym (uses-take w r turn)))

  -- the first was stored before the walk began
  pub begun-ends : (before after : List ℕ) {r : ℕ} → n ≤ r → Begun book rows n (set before 0 0) r after → AllStarts book rows n before after
  begun-ends before after {r} h s = record { is = is }
    where
      is : (b : Book) (l : List (Subgoal (Term ℕ))) → RowsOf book rows n b l → after ≡ at_front (starts 0 (uses (admitted_of b) 0 l)) before
      is b l w =
          let front = starts 0 (uses (admitted_of b) 0 l) in
          s.is b l w ∙ ap (λ m. at_front (starts 0 (uses (admitted_of b) 0 m)) (set before 0 0)) (take_all r l (let c = w.count in omega arith))
          ∙ ap (λ t. front ++ t) (drop-set-lt (length front) before 0 0 (omega (arith, starts-long 0 (uses (admitted_of b) 0 l))))
