-- The verdict on a rule's bytes: one law for each return of the code, and that two verdicts on the same bytes are the same.
use mathlib.Core.Path.{◌≡◌, refl, sym, ap, ◌∙◌, subst}
use mathlib.Core.Bool.{Bool, true, false}
use mathlib.Core.List.{List}
use Prim.Native.Nat.{ℕ}
use Rattle.std.specs.Prelude.{Result, Ok, Err}
use Rattle.spec.specs.Words.{Rule, Safe, DistinctVariables}
use Rattle.spec.specs.Numbers.{Bytes}
use Rattle.spec.specs.RuleLayout.{Layout}
use Rattle.spec.proofs.Bytes.RuleReading.{Read, got, bad, read_rule}
use Rattle.spec.proofs.Bytes.RuleReading as reading
use Rattle.spec.proofs.Bytes.RuleLaws.{layout-read, no-layout, layout-unique}
use Rattle.bits.specs.Sets.{Has, Within}
use Rattle.rules.specs.declared.subgoals.Fault.{Fault}
use Rattle.rules.specs.declared.subgoals.Fault.TheVariants.{Count, Relation, Tag, Variable, Early, Over}
use Rattle.rules.specs.declared.Notes.{Notes}
use Rattle.rules.specs.declared.Defect.{Defect}
use Rattle.rules.specs.declared.Defect.TheVariants.{Broken, Unsafe, Repeats}
use Rattle.rules.specs.Marked.{none, marks, goal_marks, fault_of}
use Rattle.rules.specs.Wholes.{whole_of}
use Rattle.rules.specs.Judged.{fault_says, IsSound, IsBroken, IsUnsafe, IsRepeating, Judged}
use Rattle.rules.proofs.Meaning.{safe-within, plain-head}

fault-back : (f : reading.Fault) → fault_says (fault_of f) ≡ f
fault-back reading.bad_count = refl
fault-back reading.bad_relation = refl
fault-back reading.bad_tag = refl
fault-back reading.bad_variable = refl
fault-back reading.early = refl
fault-back reading.over = refl

fault-forth : (f : Fault) → fault_of (fault_says f) ≡ f
fault-forth Count = refl
fault-forth Relation = refl
fault-forth Tag = refl
fault-forth Variable = refl
fault-forth Early = refl
fault-forth Over = refl

clash : {A : Type 0} (t : Bool) → t ≡ true → t ≡ false → A
clash t a b = cc

module _ (arities : List ℕ) (most : ℕ) (summary : Bool) (bytes : List ℕ) where
  pub judged-broken : (r : Result Notes Fault) (f : Fault) → r ≡ whole_of (read_rule arities most bytes) → r ≡ Err f → IsBroken arities most summary bytes f
  unfolding whole_of
  judged-broken r f e b = go (read_rule arities most bytes) refl (sym b ∙ e)
    where
      go : (z : Read (Rule ℕ)) → read_rule arities most bytes ≡ z → Err f ≡ whole_of z → IsBroken arities most summary bytes f
      go (got r rest) p k = cc
      go (bad g) p k =
          let fg : f ≡ fault_of g = cc in
          record { none = no-layout arities most bytes g p; first = p ∙ ap bad (sym (fault-back g) ∙ ap fault_says (sym fg)) }

  module _ (h : Bytes bytes) (r : Result Notes Fault) (notes : Notes) (e : r ≡ whole_of (read_rule arities most bytes)) (b : r ≡ Ok notes) where
    record Known : Type 0 where
      rule : Rule ℕ
      layout : Layout arities most bytes rule
      head : notes.head ≡ marks none rule.head
      body : notes.body ≡ goal_marks none rule.body

    known : Known
    unfolding whole_of
    known = go (read_rule arities most bytes) refl (sym b ∙ e)
      where
        go : (z : Read (Rule ℕ)) → read_rule arities most bytes ≡ z → Ok notes ≡ whole_of z → Known
        go (got r rest) p k = record { rule = r; layout = layout-read arities most bytes r rest h p; head = cc; body = cc }
        go (bad g) p k = cc

    is-safe : (t : Bool) → Within notes.head.vars notes.body.vars t → t ≡ true → Safe known.rule
    is-safe t i p = (safe-within known.rule).1 (subst (λ m. (x : ℕ) → Has m.vars x → Has (goal_marks none known.rule.body).vars x) known.head (subst (λ m. (x : ℕ) → Has notes.head.vars x → Has m.vars x) known.body (i.exactly.0 p)))

    pub judged-unsafe : (t : Bool) → Within notes.head.vars notes.body.vars t → t ≡ false → IsUnsafe arities most summary bytes
    judged-unsafe t i p = record {
      rule = known.rule;
      layout = known.layout;
      not_safe = λ s. clash t (i.exactly.1 (subst (λ m. (x : ℕ) → Has m.vars x → Has notes.body.vars x) (sym known.head) (subst (λ m. (x : ℕ) → Has (marks none known.rule.head).vars x → Has m.vars x) (sym known.body) ((safe-within known.rule).0 s)))) p;
    }

    pub judged-plain : (t : Bool) → Within notes.head.vars notes.body.vars t → t ≡ true → notes.head.plain ≡ true → IsSound arities most summary bytes
    judged-plain t i p q = record {
      rule = known.rule;
      layout = known.layout;
      safe = is-safe t i p;
      plain = λ s. (plain-head known.rule.head).0 (ap (λ m. m.plain) (sym known.head) ∙ q);
    }

    pub judged-repeating : (t : Bool) → Within notes.head.vars notes.body.vars t → t ≡ true → notes.head.plain ≡ false → summary ≡ true → IsRepeating arities most summary bytes
    judged-repeating t i p q s = record {
      is_summary = s;
      rule = known.rule;
      layout = known.layout;
      safe = is-safe t i p;
      not_plain = λ d. clash notes.head.plain (ap (λ m. m.plain) known.head ∙ (plain-head known.rule.head).1 d) q;
    }

    pub judged-question : (t : Bool) → Within notes.head.vars notes.body.vars t → t ≡ true → summary ≡ false → IsSound arities most summary bytes
    judged-question t i p s = record { rule = known.rule; layout = known.layout; safe = is-safe t i p; plain = λ q. clash summary q s }

  -- two verdicts on the same bytes are the same
  same-rule : {r r' : Rule ℕ} → Layout arities most bytes r → Layout arities most bytes r' → r ≡ r'
  same-rule {r} {r'} l l' = layout-unique arities most bytes r r' l l'

  pub judged-once : (v v' : Result Unit Defect) → Judged arities most summary bytes v → Judged arities most summary bytes v' → v ≡ v'
  judged-once (Ok x) (Ok y) a b = refl
  judged-once (Ok x) (Err (Broken f)) a b = absurd (b.none a.rule a.layout)
  judged-once (Ok x) (Err Unsafe) a b = absurd (b.not_safe (subst Safe (same-rule a.layout b.layout) a.safe))
  judged-once (Ok x) (Err Repeats) a b = absurd (b.not_plain (subst (λ r. DistinctVariables r.head) (same-rule a.layout b.layout) (a.plain b.is_summary)))
  judged-once (Err (Broken f)) (Ok y) a b = absurd (a.none b.rule b.layout)
  judged-once (Err (Broken f)) (Err (Broken g)) a b =
      let e : bad (fault_says f) ≡ bad (fault_says g) = sym a.first ∙ b.first in
      let d : fault_says f ≡ fault_says g = cc in
      ap (λ x. Err (Broken x)) (sym (fault-forth f) ∙ ap fault_of d ∙ fault-forth g)
  judged-once (Err (Broken f)) (Err Unsafe) a b = absurd (a.none b.rule b.layout)
  judged-once (Err (Broken f)) (Err Repeats) a b = absurd (a.none b.rule b.layout)
  judged-once (Err Unsafe) (Ok y) a b = absurd (a.not_safe (subst Safe (same-rule b.layout a.layout) b.safe))
  judged-once (Err Unsafe) (Err (Broken f)) a b = absurd (b.none a.rule a.layout)
  judged-once (Err Unsafe) (Err Unsafe) a b = refl
  judged-once (Err Unsafe) (Err Repeats) a b = absurd (a.not_safe (subst Safe (same-rule b.layout a.layout) b.safe))
  judged-once (Err Repeats) (Ok y) a b = absurd (a.not_plain (subst (λ r. DistinctVariables r.head) (same-rule b.layout a.layout) (b.plain a.is_summary)))
  judged-once (Err Repeats) (Err (Broken f)) a b = absurd (b.none a.rule a.layout)
  judged-once (Err Repeats) (Err Unsafe) a b = absurd (b.not_safe (subst Safe (same-rule a.layout b.layout) a.safe))
  judged-once (Err Repeats) (Err Repeats) a b = refl
