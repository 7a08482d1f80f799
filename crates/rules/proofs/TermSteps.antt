-- What a term's step answers, one law for each return of the code.
use mathlib.Core.Path.{◌≡◌, refl, sym, ap, ap₂, ◌∙◌}
use mathlib.Core.Bool.{Bool, true, false, cond}
use mathlib.Core.List.{List}
use Prim.Native.Nat.{ℕ, zero, suc, ◌+◌, ◌-◌, ◌<◌, ◌≤◌}
use native.Mathlib.Omega.{arith}
use native.Mathlib.Numerals.{add-one}
use lib.ListN.{length, get_or, drop, drop_of_length-le}
use lib.Seq.{drop-cons}
use lib.Dec.{eqb}
use borrow.Author.Tests.{eqb-false, eq-eqb, ne_eqb, lt-ltb, le-ltb}
use Rattle.std.specs.Prelude.{Result, Ok, Err}
use Rattle.spec.specs.Words.{Term, var, con}
use Rattle.spec.specs.Numbers.{number_at}
use Rattle.spec.proofs.Bytes.RuleReading.{Read, got, bad, bad_tag, bad_variable, early, and_then, as_variable, as_constant, read_number, read_tagged, read_term}
use Rattle.spec.proofs.Bytes.NumberLaws.{read-number-at, read-number-cut}
use Rattle.rules.specs.declared.subgoals.Fault.TheVariants.{Tag, Variable, Early}
use Rattle.rules.specs.declared.subgoals.Marks.{Marks}
use Rattle.rules.specs.declared.subgoals.Fault.{Fault}
use Rattle.rules.specs.declared.subgoals.Front.{Front}
use Rattle.rules.specs.Marked.{stepped}
use Rattle.spec.proofs.Lists.Parts.{place-left}

small : (n : ℕ) → n ≤ 1 → (n ≡ 0 → ⊥) → (n ≡ 1 → ⊥) → ⊥
small zero h f g = f refl
small (suc zero) h f g = g refl
small (suc (suc n)) h f g = omega arith

module _ (noted : Term ℕ → Marks) (s : List ℕ) (at : ℕ) where
  abbrev answer : Result Front Fault
  answer = stepped noted (length s) (read_term (drop at s))

  pub at-end : length s ≤ at → Err Early ≡ answer
  unfolding stepped
  at-end h = rw (drop_of_length-le s h)

  module _ (tag : ℕ) (here : (at < length s) × ((d : ℕ) → tag ≡ get_or s at d)) where
    tagged : read_term (drop at s) ≡ read_tagged tag (drop (at + 1) s)
    tagged = ap read_term (drop-cons s at 0 here.0) ∙ ap₂ (λ t p. read_tagged t (drop p s)) (sym (here.1 0)) (sym (add-one at))

    answered : (z : Read (Term ℕ)) → read_tagged tag (drop (at + 1) s) ≡ z → stepped noted (length s) z ≡ answer
    answered z e = ap (stepped noted (length s)) (sym (tagged ∙ e))

    pub bad-tag : 1 < tag → Err Tag ≡ answer
    unfolding stepped
    bad-tag t = answered (bad bad_tag) (rw (ne_eqb tag 0 (λ e. omega arith), ne_eqb tag 1 (λ e. omega arith)))

    pub cut : tag ≤ 1 → length s - at < 5 → Err Early ≡ answer
    unfolding stepped
    cut t l = answered (bad early) (by (eqb tag 0) (eqb tag 1) refl refl)
      where
        short : read_number 4 (drop (at + 1) s) ≡ bad early
        short = let h = here.0 in read-number-cut 4 s (at + 1) (omega arith) (omega arith)

        by : (a b : Bool) → eqb tag 0 ≡ a → eqb tag 1 ≡ b
            → cond a (and_then (read_number 4 (drop (at + 1) s)) as_variable) (cond b (and_then (read_number 4 (drop (at + 1) s)) as_constant) (bad bad_tag)) ≡ bad early
        by true b p q = ap (λ r. and_then r as_variable) short
        by false true p q = ap (λ r. and_then r as_constant) short
        by false false p q = let f = eqb-false tag 0 p in let g = eqb-false tag 1 q in absurd (small tag t f g)

    module _ (n : ℕ) (room : 5 ≤ length s - at) (e : n ≡ number_at 4 s (at + 1)) where
      number : read_number 4 (drop (at + 1) s) ≡ got n (drop (at + 5) s)
      number = let p : at + 1 + 4 ≡ at + 5 = omega arith in read-number-at 4 s (at + 1) (omega arith) ∙ ap₂ got (sym e) (ap (λ p. drop p s) p)

      placed : (t : Term ℕ) → read_tagged tag (drop (at + 1) s) ≡ got t (drop (at + 5) s) → Ok (record { at = at + 5; notes = noted t }) ≡ answer
      unfolding stepped
      placed t p = ap (λ q. Ok (record { at = q; notes = noted t })) (sym (place-left s (at + 5) (omega arith))) ∙ answered (got t (drop (at + 5) s)) p

      pub constant : tag ≡ 1 → Ok (record { at = at + 5; notes = noted (con n) }) ≡ answer
      constant t = placed (con n) (rw (ne_eqb tag 0 (λ z. omega arith), eq-eqb tag 1 t) (ap (λ r. and_then r as_constant) number))

      variable-read : tag ≡ 0 → read_tagged tag (drop (at + 1) s) ≡ as_variable n (drop (at + 5) s)
      variable-read t = rw (eq-eqb tag 0 t) (ap (λ r. and_then r as_variable) number)

      pub variable : tag ≡ 0 → n < 32 → Ok (record { at = at + 5; notes = noted (var n) }) ≡ answer
      variable t l = placed (var n) (variable-read t ∙ rw (lt-ltb n 32 l))

      pub bad-variable : tag ≡ 0 → 32 ≤ n → Err Variable ≡ answer
      unfolding stepped
      bad-variable t l = answered (bad bad_variable) (variable-read t ∙ rw (le-ltb n 32 l))
