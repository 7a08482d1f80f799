-- What the verdict on the bytes says of their layout alone.
use mathlib.Core.Path.{◌≡◌, subst}
use mathlib.Core.Bool.{Bool, true, false}
use mathlib.Core.List.{List}
use Prim.Native.Nat.{ℕ}
use Rattle.spec.specs.BookLayout.{question_most}
use Rattle.std.specs.Prelude.{Result, Ok, Err}
use Rattle.rules.specs.declared.Defect.{Defect}
use Rattle.rules.specs.declared.Defect.TheVariants.{Broken, Unsafe, Repeats}
use Rattle.rules.specs.Judged.{Judged}
use Rattle.rule_codes.specs.Laid.{Laid}
use Rattle.bits.proofs.Laws.{exactly-yes, exactly-no}
use Rattle.checker.specs.Tests.{LaidOut}

-- every rule that is not broken has it
abbrev pub ruled : Result Unit Defect → Bool
ruled (Ok _) = true
ruled (Err (Broken f)) = false
ruled (Err Unsafe) = true
ruled (Err Repeats) = true

pub laid_by : (lengths rewriting : List ℕ) (v w : Result Unit Defect) → Judged lengths question_most false rewriting v → v ≡ w → LaidOut lengths rewriting (ruled w)
laid_by lengths rewriting v w j e = go w (subst (Judged lengths question_most false rewriting) e j)
  where
    go : (w : Result Unit Defect) → Judged lengths question_most false rewriting w → LaidOut lengths rewriting (ruled w)
    go (Ok _) x = record { exactly = exactly-yes (x.rule, x.layout) }
    go (Err (Broken f)) x = record { exactly = exactly-no (λ o. x.none o.0 o.1) }
    go (Err Unsafe) x = record { exactly = exactly-yes (x.rule, x.layout) }
    go (Err Repeats) x = record { exactly = exactly-yes (x.rule, x.layout) }

pub laid-some : {lengths rewriting : List ℕ} {r : Bool} → LaidOut lengths rewriting r → r ≡ true → Laid rewriting
laid-some {lengths} l t = let o = l.exactly.0 t in record { arities = lengths; most = question_most; rule = o.0; layout = o.1 }
