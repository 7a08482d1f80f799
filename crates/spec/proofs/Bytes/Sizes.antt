-- How many bytes a rule has: 5 for each term, so 8 at least; a question 534 and a summary 370 at most.
use mathlib.Core.Path.{◌≡◌, ap}
use mathlib.Core.List.{List}
use Prim.Native.Nat.{ℕ, suc, ◌+◌, ◌*◌, ◌≤◌}
use native.Mathlib.Omega.{arith}
use lib.ListN.{length, get_or, length-append}
use Rattle.spec.specs.Words.{◌∈◌, Term, var, con, Subgoal, Rule, Fits}
use Rattle.spec.specs.RuleLayout.{term_bytes, terms_bytes, subgoal_bytes, subgoals_bytes, rule_bytes, RuleWithin}
use Rattle.spec.specs.BookLayout.{Arities, question_most, summary_most}
use Rattle.spec.proofs.Bytes.NumberLaws.{length-little}
use Rattle.spec.proofs.Lists.Joined.{joined-least, joined-most}
use Rattle.spec.proofs.Lists.At.{get_or-in}

-- "A term: one byte .., then four bytes."
pub term-size : (t : Term ℕ) → length (term_bytes t) ≡ 5
term-size (var v) = ap suc (length-little 4 v)
term-size (con c) = ap suc (length-little 4 c)

pub terms-size : (ts : List (Term ℕ)) → length (terms_bytes ts) ≡ 5 * length ts
terms-size ts =
    let least = joined-least term_bytes 5 ts (λ t m. omega (arith, term-size t)) in
    let most = joined-most term_bytes 5 ts (λ t m. omega (arith, term-size t)) in
    omega arith

module _ (r : Rule ℕ) where
  pub rule-parts : length (rule_bytes r) ≡ 2 + 5 * length r.head + length (subgoals_bytes r.body)
  rule-parts = omega (arith, length-append (terms_bytes r.head) (subgoals_bytes r.body), terms-size r.head)

  -- Any rule with no more than eight terms in a row: the answer is one too, over the summaries in place of the relations.
  pub rule-most : (most : ℕ) → length r.head ≤ 8 → length r.body ≤ most → ((g : Subgoal (Term ℕ)) → g ∈ r.body → length g.terms ≤ 8) → length (rule_bytes r) ≤ 42 + 41 * most
  rule-most most short few terms =
      omega (arith, rule-parts, joined-most subgoal_bytes 41 r.body (λ g m. omega (arith, terms g m, terms-size g.terms)))

  rule-least : 1 ≤ length r.body → ((g : Subgoal (Term ℕ)) → g ∈ r.body → 1 ≤ length g.terms) → 8 ≤ length (rule_bytes r)
  rule-least some terms =
      omega (arith, rule-parts, joined-least subgoal_bytes 6 r.body (λ g m. omega (arith, terms g m, terms-size g.terms)))

-- "each an arity 1 to 8"
pub terms-few : {arities : List ℕ} → Arities arities → (g : Subgoal (Term ℕ)) → Fits arities g → (1 ≤ length g.terms) × (length g.terms ≤ 8)
terms-few {arities} a g f =
    let range = a.range (get_or arities g.relation 0) (get_or-in 0 arities g.relation f.known) in
    omega (arith, f.long)

module _ {arities : List ℕ} (a : Arities arities) (r : Rule ℕ) where
  pub within-least : (most : ℕ) → RuleWithin arities most r → 8 ≤ length (rule_bytes r)
  within-least most w = rule-least r w.some (λ g m. (terms-few a g (w.fit g m)).0)

  pub within-most : (most : ℕ) → RuleWithin arities most r → length (rule_bytes r) ≤ 42 + 41 * most
  within-most most w = rule-most r most w.short w.few (λ g m. (terms-few a g (w.fit g m)).1)

  pub question-most : RuleWithin arities question_most r → length (rule_bytes r) ≤ 534
  question-most = within-most question_most

  pub summary-most : RuleWithin arities summary_most r → length (rule_bytes r) ≤ 370
  summary-most = within-most summary_most
