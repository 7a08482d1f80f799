-- What each answer of `lead_of` says in the specification's words: a summary never filled has no lead.
use Rattle.std.specs.Prelude.{ℤ, Option, Some, None}
use Rattle.spec.specs.Refresh.{Lead, ahead, unfilled}

abbrev pub lead_says : Option ℤ → Lead
lead_says (Some z) = ahead z
lead_says None = unfilled
