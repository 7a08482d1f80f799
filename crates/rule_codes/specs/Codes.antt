-- The codes of terms by what the variables' codes are, so that one builder serves every code of crate codes; laws tie each to those.
use Rattle.std.specs.Prelude.{List, ℕ, ◌+◌, ◌<◌, get_or}
use Rattle.spec.specs.Words.{Term, var, con}
use Rattle.spec.specs.Summaries.{Own, old, fresh}
use Rattle.codes.specs.Code.{constant_tag}

-- A table has the variables' codes.
abbrev pub tabled : List ℕ → Term ℕ → ℕ
tabled table (var x) = get_or table x 0
tabled table (con c) = constant_tag + c

-- A base that variables' numbers count from: the sums fit a code.
abbrev pub Base : ℕ → Type 0
Base base = base < 9223372036854775808

-- Variables count from a base: that is `slotCode` from 0 on, and `termCode` from `variableTag` on.
abbrev pub based : ℕ → Term ℕ → ℕ
based base (var x) = base + x
based base (con c) = constant_tag + c

-- the same of a variable's number
abbrev pub counted : ℕ → ℕ → ℕ
counted base x = base + x

-- In a use the list's variables count from one base, and the use's own from another.
abbrev pub based_use : ℕ → ℕ → Term (Own ℕ) → ℕ
based_use olds base (var (old x)) = olds + x
based_use olds base (var (fresh u x)) = base + x
based_use olds base (con c) = constant_tag + c
