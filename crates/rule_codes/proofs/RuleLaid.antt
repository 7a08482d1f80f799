-- The rule whose bytes are lent: it is what the bytes are read as, so that there is some is enough.
use mathlib.Core.Path.{◌≡◌, refl, sym, ap, ◌∙◌}
use mathlib.Core.Logic.{∥∥₁_elim}
use mathlib.Core.List.{List, []}
use Prim.Native.Nat.{ℕ, ◌≤◌}
use native.Mathlib.Nat.{ℕ_set}
use native.Mathlib.Bridge.{le_prop}
use native.Mathlib.Omega.{arith}
use base.Stored.{Coded-set, coded_ℕ, coded_list}
use lib.ListN.{length, get_or}
use Rattle.spec.specs.Words.{Term, var, con, Rule}
use Rattle.spec.specs.BookLayout.{Arities, question_most}
use Rattle.spec.specs.RuleLayout.{TermWithin, RuleWithin, Layout}
use Rattle.spec.proofs.Bytes.RuleReading.{Read, got, bad, read_rule}
use Rattle.spec.proofs.Bytes.RuleLaws.{read-layout}
use Rattle.spec.proofs.Bytes.TwoWays.{not-bad}
use Rattle.rule_codes.specs.Laid.{Laid, LaidOver, QuestionLaid}

-- "one byte subgoal count"
pub goals-counted : {arities bytes : List ℕ} {most : ℕ} {r : Rule ℕ} → Layout arities most bytes r → get_or bytes 1 0 ≡ length r.body
goals-counted l = ap (λ bs. get_or bs 1 0) (sym l.written)

-- within another bound
pub bounded : {arities bytes : List ℕ} {m most : ℕ} {r : Rule ℕ} → length r.body ≤ most → Layout arities m bytes r → Layout arities most bytes r
bounded h l = let w = l.within in record { within = record { short = w.short; some = w.some; few = h; head = w.head; fit = w.fit; body = w.body }; written = l.written }

pub rule-there : {arities bytes : List ℕ} {most : ℕ} {r : Rule ℕ} → Layout arities most bytes r → ∥ LaidOver arities bytes ∥₁
rule-there {most = most} {r} l = ∣ record { most = most; rule = r; layout = l } ∣₁

term-prop : (t : Term ℕ) → IsProp (TermWithin t)
term-prop (var x) = le_prop
term-prop (con c) = le_prop

module _ {arities bytes : List ℕ} (o : ∥ LaidOver arities bytes ∥₁) where
  -- what the bytes are read as is a rule within the bounds: each of its facts has one proof at most
  module _ (r : Rule ℕ) (same : (w : LaidOver arities bytes) → Layout arities w.most bytes r) where
    within-read : RuleWithin arities (length r.body) r
    within-read = record {
      short = ∥∥₁_elim o le_prop (λ w. (same w).within.short);
      some = ∥∥₁_elim o le_prop (λ w. (same w).within.some);
      few = omega arith;
      head = λ t i. ∥∥₁_elim o (term-prop t) (λ w. (same w).within.head t i);
      fit = λ g i. record { known = ∥∥₁_elim o le_prop (λ w. ((same w).within.fit g i).known); long = ∥∥₁_elim o (ℕ_set _ _) (λ w. ((same w).within.fit g i).long) };
      body = λ g i t j. ∥∥₁_elim o (term-prop t) (λ w. (same w).within.body g i t j);
    }

    layout-read : Layout arities (length r.body) bytes r
    layout-read = record { within = within-read; written = ∥∥₁_elim o (Coded-set (coded_list coded_ℕ) _ _) (λ w. (same w).written) }

  pub laid-over : LaidOver arities bytes
  laid-over = go (read_rule arities (get_or bytes 1 0) bytes) refl
    where
      read : (w : LaidOver arities bytes) → read_rule arities (get_or bytes 1 0) bytes ≡ got w.rule []
      read w = read-layout arities (get_or bytes 1 0) bytes w.rule (bounded (let e = goals-counted w.layout in omega arith) w.layout)

      go : (z : Read (Rule ℕ)) → read_rule arities (get_or bytes 1 0) bytes ≡ z → LaidOver arities bytes
      go (got r rest) e = record {
        most = length r.body;
        rule = r;
        layout = layout-read r (λ w. let f : got w.rule [] ≡ got r rest = sym (read w) ∙ e in let s : w.rule ≡ r = cc in rw (sym s) w.layout);
      }
      go (bad f) e = absurd (∥∥₁_elim o (λ x y. absurd x) (λ w. not-bad (sym e ∙ read w)))

  pub laid : Laid bytes
  laid = let w = laid-over in record { arities = arities; most = w.most; rule = w.rule; layout = w.layout }

  pub question-laid : Arities arities → get_or bytes 1 0 ≤ question_most → QuestionLaid arities bytes
  question-laid a h = let w = laid-over in record { known = a; rule = w.rule; layout = bounded (let e = goals-counted w.layout in omega arith) w.layout }
