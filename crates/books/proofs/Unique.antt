-- Two answers on one book are the same.
use mathlib.Core.Path.{◌≡◌, refl, sym, ap, ◌∙◌}
use mathlib.Core.List.{List}
use Prim.Native.Nat.{ℕ}
use Rattle.std.specs.Prelude.{Result, Ok, Err}
use Rattle.spec.specs.Reading.{ReadingSays, ToldSays, c_answer}
use Rattle.spec.specs.declared.Reason.{Reason}
use Rattle.spec.specs.declared.Refused.{Refused}
use Rattle.spec.proofs.Told.{told-once as same-refusal}
use Rattle.spec.proofs.Bytes.RefusedOnce.{refused-once}
use Rattle.spec.proofs.Bytes.Refused.{sound-unrefused}

pub reading-once : (book : List ℕ) (r r' : Result Unit Refused) → ReadingSays book r → ReadingSays book r' → r ≡ r'
reading-once book (Ok u) (Ok v) a b = refl
reading-once book (Ok u) (Err e) a b = absurd (sound-unrefused a.1 b)
reading-once book (Err e) (Ok v) a b = absurd (sound-unrefused b.1 a)
reading-once book (Err e) (Err f) a b = ap Err (same-refusal e f (refused-once book a b))

pub told-once : (book : List ℕ) (t t' : Reason) → ToldSays book t → ToldSays book t' → t ≡ t'
told-once book t t' a b = a.is ∙ ap c_answer (reading-once book a.reading b.reading a.says b.says) ∙ sym b.is
