-- What a sound book means: one value.
use Rattle.std.specs.Prelude.{Bool, true, false, List, map, ℕ}
use Rattle.std.proofs.Math.Option.{Option, some, none}
use Rattle.spec.specs.Words.{Rule}
use Rattle.spec.specs.Summaries.{Summaries}
use Rattle.spec.specs.Refresh.{admitted}

-- "each summary its stamp"
pub record Summary : Type 0 where
  pub stamp : ℕ
  pub rule : Rule ℕ

pub record Book : Type 0 where
  pub arities : List ℕ
  pub need : ℕ
  pub question : Rule ℕ
  pub summaries : List Summary

abbrev pub if_true : Bool → Rule ℕ → Option (Rule ℕ)
if_true true r = some r
if_true false r = none

-- "A summary left out has no say": of the summaries, in their order, just the admitted ones' rules.
abbrev pub admitted_of : Book → Summaries
admitted_of b = map (λ s. if_true (admitted b.need s.stamp s.rule) s.rule) b.summaries
