-- Any two results that meet a promise of this crate are equal: the answer, and every record of the table.
use mathlib.Core.Path.{◌≡◌, refl, ap, sym, subst, ◌∙◌}
use mathlib.Core.List.{List}
use Prim.Native.Nat.{ℕ}
use native.Mathlib.Omega.{arith}
use lib.ListN.{length}
use Rattle.std.specs.Prelude.{Result, Ok, Err}
use Rattle.spec.specs.TableLoading.{TableRefusal, one, then, JudgeSays, Afterwards, LoadingSays}
use Rattle.spec.specs.declared.Entry.{Entry}
use Rattle.spec.specs.declared.Reason.{Reason}
use Rattle.spec.specs.declared.Refused.{Refused}
use Rattle.spec.proofs.Bytes.FirstFaults.{loads-unrefused}
use Rattle.spec.proofs.Bytes.RefusedOnce.{refused-once}
use Rattle.spec.proofs.Told.{told-once}

refusal-unique : (book : List ℕ) (room : ℕ) {r s : Reason} → TableRefusal book room r → TableRefusal book room s → r ≡ s
refusal-unique book room (one h) (one g) = refl
refusal-unique book room (one h) (then g q e) = absurd (omega arith)
refusal-unique book room (then h p e) (one g) = absurd (omega arith)
refusal-unique book room (then h p e) (then g q f) = refused-once book p q

never_both : (book : List ℕ) (room n : ℕ) {r : Reason} → JudgeSays book room (Ok n) → TableRefusal book room r → ⊥
never_both book room n p (one h) = let g = p.0 in omega arith
never_both book room n p (then h q e) = loads-unrefused book p.1.0 q e

pub judge-unique : (book : List ℕ) (room : ℕ) (r s : Result ℕ Refused) → JudgeSays book room r → JudgeSays book room s → r ≡ s
judge-unique book room (Ok n) (Ok m) p q = ap Ok (p.1.1 ∙ sym q.1.1)
judge-unique book room (Ok n) (Err e) p q = absurd (never_both book room n p q)
judge-unique book room (Err e) (Ok n) p q = absurd (never_both book room n q p)
judge-unique book room (Err e) (Err f) p q = ap Err (told-once e f (refusal-unique book room p q))

afterwards-unique : (book : List ℕ) (before after after' : List Entry) (r : Result ℕ Refused) → Afterwards book before after r → Afterwards book before after' r → after ≡ after'
afterwards-unique book before after after' (Ok n) p q = p ∙ sym q
afterwards-unique book before after after' (Err e) p q = p ∙ sym q

-- `load_table`
module _ (book : List ℕ) (before after after' : List Entry) (r s : Result ℕ Refused) (p : LoadingSays book before after r) (q : LoadingSays book before after' s) where
  pub loading-unique : r ≡ s
  loading-unique = judge-unique book (length before) r s p.judged q.judged

  pub table-unique : after ≡ after'
  table-unique = afterwards-unique book before after after' s (subst (Afterwards book before after) loading-unique p.table) q.table
