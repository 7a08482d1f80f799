-- The rewriter's own answers pass.
use mathlib.Core.Path.{◌≡◌, refl, sym, ap, ◌∙◌}
use mathlib.Core.List.{List, [], ◌∷◌}
use Prim.Native.Nat.{ℕ, ◌≤◌}
use native.Mathlib.Omega.{arith}
use lib.ListN.{length, length-map}
use Rattle.spec.specs.Words.{Term, con, Subgoal, Rule, becomes, each}
use Rattle.spec.specs.Summaries.{Summaries, rewriting}
use Rattle.spec.specs.Answer.{AtPairs, There}
use Rattle.spec.specs.Book.{Book, admitted_of}
use Rattle.spec.specs.Given.{answer_bytes, witness_bytes, Given}
use Rattle.spec.specs.Truth.{RewritingRule, Truth}
use Rattle.outcomes.proofs.Demand.{given-few}
use Rattle.outcomes.proofs.Bounds.{book-bounds, rows-bounds}

-- no rows give no place for a subgoal
no_place : {A : Type 0} (bytes : List ℕ) (t : A) (ts : List A) → AtPairs [] bytes (t ∷ ts) → ⊥
no_place [] t ts h = h
no_place (n ∷ []) t ts h = h
no_place (n ∷ m ∷ bytes) t ts h = let z : ◌≡◌ {A = ℕ} 0 1 = cc in omega arith

some-rows : (s : Summaries) (q : Rule ℕ) (l : List (Subgoal (Term ℕ))) (bytes : List ℕ) → 1 ≤ length q.body → There s q (rewriting q l) bytes → 1 ≤ length l
some-rows s q (g ∷ l) bytes h t = omega arith
some-rows s q [] bytes h t = go t.targets t.named (length-map q.body (each (becomes con t.mapping.value)) ∙ refl) (ap length t.mapping.sends)
  where
    go : {A : Type 0} (ts : List A) → AtPairs [] bytes ts → {n : ℕ} → n ≡ length q.body → n ≡ length ts → 1 ≤ 0
    go [] a e f = omega arith
    go (u ∷ ts) a e f = absurd (no_place bytes u ts a)

module _ {book : List ℕ} {answer witness : ℕ} (g : Given book answer witness) where
  abbrev b : Book
  b = g.value

  rule-is : RewritingRule b (rewriting b.question g.result.rows)
  rule-is = record {
    some = some-rows (admitted_of b) b.question g.result.rows g.result.there g.sound.value.question.within.some g.right.goes.holds;
    few = omega (arith, given-few g, g.sound.value.question.within.few);
    over = λ k m. let y = g.right.answers.holds.rows k m in record { rule = y.rule; admitted = y.admitted; long = ap length (sym y.yields.gives) ∙ length-map y.rule.head (becomes con y.yields.value) };
    within = (rows-bounds b.arities (admitted_of b) b.question (book-bounds b g.sound.value) g.result.rows g.right.answers.holds.rows).within;
    head = refl;
  }

  pub given-true : Truth book (answer_bytes b.question g.result) (witness_bytes g.result)
  given-true = record {
    value = b;
    sound = g.sound;
    rule = rewriting b.question g.result.rows;
    written = refl;
    is = rule-is;
    there = g.result.there;
    back = g.result.back;
    whole = refl;
    goes = g.right.goes.holds;
    returns = g.right.returns.holds;
  }
