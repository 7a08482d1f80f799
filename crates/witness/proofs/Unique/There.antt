-- Any two results that meet a promise are the same: the first part of the witness is the first by an order.
use mathlib.Core.Path.{◌≡◌, sym, ap, ◌∙◌}
use mathlib.Core.List.{List}
use Prim.Native.Nat.{ℕ}
use lib.ListN.{length}
use lib.Seq.{sets}
use Rattle.spec.proofs.Lists.Strict.{first-unique}
use Rattle.spec.proofs.Decided.Orders.{bytes_order}
use Rattle.witness.specs.ThereTold.{WitnessNeeds, ThereSays}

module _ {book rows : List ℕ} {k : ℕ} (w : WitnessNeeds book rows k) where
  pub there-once : {before after other : List ℕ} {n m : ℕ} → ThereSays book rows k before after n → ThereSays book rows k before other m → (n ≡ m) × (after ≡ other)
  there-once {before} s t =
      let a = s.is w.some.value w.some.list w.some.is w.serves in
      let b = t.is w.some.value w.some.list w.some.is w.serves in
      let e = first-unique bytes_order a.bytes b.bytes a.first b.first in
      (a.long ∙ ap length e ∙ sym b.long, a.written ∙ ap (sets before 0) e ∙ sym b.written)
