-- What summaries may hold.
use mathlib.Core.Path.{◌≡◌, subst}
use Prim.Native.Nat.{ℕ}
use Rattle.spec.specs.Words.{Facts, Yields, itself}
use Rattle.spec.specs.Summaries.{Summaries, Yielded, HoldJust}

-- Summaries can hold just what their definitions yield.
pub yielded-just : (s : Summaries) (d : Facts ℕ) → HoldJust s d (Yielded itself s d)
yielded-just s d f r e = (
  λ y. let same : y.rule ≡ r = cc (y.admitted, e) in subst (λ z. Yields itself z d f.terms) same y.yields,
  λ y. record { rule = r; admitted = e; yields = y },
)
