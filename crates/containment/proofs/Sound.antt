-- What reading grants of a sound book, by refusals 6, 7 and 8.
use mathlib.Core.Path.{◌≡◌, refl, subst}
use mathlib.Core.Bool.{Bool, true, false}
use mathlib.Core.Option.{Option, some, none-ne-some, some-injective}
use mathlib.Core.List.{List, [], ◌∷◌, map}
use Prim.Native.Nat.{ℕ, zero, suc}
use Rattle.spec.specs.Words.{◌∈◌, Rule}
use Rattle.spec.specs.Summaries.{place, summary}
use Rattle.spec.specs.Refresh.{admitted}
use Rattle.spec.specs.Book.{Summary, Book, if_true, admitted_of}
use Rattle.spec.specs.Demand.{Granted, GrantedSummary}
use Rattle.spec.proofs.Lists.Counted.{place_in}
use Rattle.spec.proofs.Decided.Sound.{AllSafe}
use Rattle.containment.proofs.Held.{Every}
use Rattle.containment.proofs.Fit.{FitEvery}
use Rattle.containment.proofs.Suit.{DistinctHeads}

-- The summary's rule, if it is admitted.
abbrev pub rule_of : ℕ → Summary → Option (Rule ℕ)
rule_of need m = if_true (admitted need m.stamp m.rule) m.rule

-- An admitted rule is that of the summary of its number.
pub admitted-place : (need : ℕ) (ms : List Summary) (n : ℕ) (r : Rule ℕ) → summary (map (rule_of need) ms) n ≡ some r → (m : Summary) × (place ms n ≡ some m) × (m.rule ≡ r)
admitted-place need [] n r e = absurd (none-ne-some r e)
admitted-place need (m ∷ ms) zero r e = absurd (none-ne-some r e)
admitted-place need (m ∷ ms) (suc zero) r e = (m, refl, go (admitted need m.stamp m.rule) e)
  where
    go : (t : Bool) → if_true t m.rule ≡ some r → m.rule ≡ r
    go true p = some-injective m.rule r p
    go false p = absurd (none-ne-some r p)
admitted-place need (m ∷ ms) (suc (suc n)) r e = admitted-place need ms (suc n) r e

pub admitted-from : (b : Book) (n : ℕ) (r : Rule ℕ) → summary (admitted_of b) n ≡ some r → (m : Summary) × (m ∈ b.summaries) × (m.rule ≡ r)
admitted-from b n r e = let w = admitted-place b.need b.summaries n r e in (w.0, place_in b.summaries n w.1, w.2)

sound-admitted : (b : Book) → Granted b → Every (admitted_of b) (GrantedSummary b.arities)
sound-admitted b sound n r e = let w = admitted-from b n r e in subst (GrantedSummary b.arities) w.2 (sound.summaries_sound w.0 w.1)

pub sound-fits : (b : Book) → Granted b → FitEvery b.arities (admitted_of b)
sound-fits b sound n r e = (sound-admitted b sound n r e).fits

pub sound-safe : (b : Book) → Granted b → AllSafe (admitted_of b)
sound-safe b sound n r e = (sound-admitted b sound n r e).safe

pub sound-distinct : (b : Book) → Granted b → DistinctHeads (admitted_of b)
sound-distinct b sound n r e = (sound-admitted b sound n r e).distinct
