-- Two results that meet a public function's promise are the same.
use mathlib.Core.Path.{◌≡◌, refl, sym, ap, ◌∙◌}
use mathlib.Core.Bool.{Bool}
use Prim.Native.Nat.{ℕ}
use Rattle.std.specs.Prelude.{Result, Ok, Err}
use Rattle.bits.proofs.Laws.{exactly-once}
use Rattle.lookahead.specs.Steps.{RowEntered, RowBarred, Entering, Settled}
use Rattle.lookahead.specs.declared.reasons.Barred.{Barred}
use Rattle.lookahead.specs.declared.reasons.Barred.TheVariants.{Short, Closed}
use Rattle.lookahead.specs.declared.reasons.Entered.{Entered}
use Rattle.lookahead.specs.declared.reasons.Reasons.{Reasons}
use Rattle.lookahead.specs.declared.reasons.Rows.{Rows}

module _ (rows : Rows) (row : ℕ) where
  same-entry : (d e : Entered) → RowEntered rows row d → RowEntered rows row e → d ≡ e
  same-entry d e f g = λ i. record { free = exactly-once d.free e.free f.free g.free i; rows = (f.after ∙ sym g.after) i }

  same-bar : (d e : Barred) → RowBarred rows row d → RowBarred rows row e → d ≡ e
  same-bar Short e f g = sym (g.allowed.1 (f.allowed.0 refl))
  same-bar Closed Short f g = f.allowed.1 (g.allowed.0 refl)
  same-bar Closed Closed f g = refl

  pub entered-once : (r s : Result Entered Barred) → Entering rows row r → Entering rows row s → r ≡ s
  entered-once (Ok d) (Ok e) f g = ap Ok (same-entry d e f g)
  entered-once (Ok d) (Err e) f g = absurd (g.barred f.afforded)
  entered-once (Err d) (Ok e) f g = absurd (f.barred g.afforded)
  entered-once (Err d) (Err e) f g = ap Err (same-bar d e f g)

pub settled-once : (why : Reasons) (new : ℕ) (free r s : Bool) → Settled why new free r → Settled why new free s → r ≡ s
settled-once why new free r s f g = exactly-once r s f.exactly g.exactly
