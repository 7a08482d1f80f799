-- What the small steps of the search make.
use Rattle.std.specs.Prelude.{◌≡◌, ◌⊎◌, ◌↔◌, Bool, true, false, cond, ◌||◌, ℕ, eqb, Result, MatchResult}
use Rattle.std.specs.Int.Bits.{bit_or}
use Rattle.bits.specs.Sets.{Has, with, below32}
use Rattle.task.specs.Terms.{noting}
use Rattle.lookahead.specs.Taking.{Enters, left_after}
use Rattle.lookahead.specs.declared.reasons.Reasons.{Reasons}
use Rattle.lookahead.specs.declared.reasons.Rows.{Rows}
use Rattle.lookahead.specs.declared.reasons.Entered.{Entered}
use Rattle.lookahead.specs.declared.reasons.Barred.{Barred}
use Rattle.lookahead.specs.declared.reasons.Barred.TheVariants.{Short, Closed}

abbrev pub rows_of : ℕ → ℕ → ℕ → Rows
rows_of used may left = record { used = used; may = may; left = left }

-- the rows once a row is entered
abbrev pub entering : Rows → ℕ → Rows
entering rows row = rows_of (with rows.used row) rows.may (left_after rows.used rows.left row)

-- the row is entered
pub record RowEntered (rows : Rows) (row : ℕ) (e : Entered) : Type 0 where
  pub afforded : Enters rows.used rows.may rows.left row
  pub free : (e.free ≡ true) ↔ Has rows.used row
  pub after : e.rows ≡ entering rows row

-- the row is not entered: an allowed one for want of more
pub record RowBarred (rows : Rows) (row : ℕ) (b : Barred) : Type 0 where
  pub barred : Enters rows.used rows.may rows.left row → ⊥
  pub allowed : (b ≡ Short) ↔ (Has rows.used row ⊎ Has rows.may row)

abbrev pub Entering : Rows → ℕ → Result Entered Barred → Type 0
Entering rows row r = MatchResult r (RowEntered rows row) (RowBarred rows row)

abbrev pub blaming : Reasons → ℕ → Reasons
blaming why x = record { slots = noting why.slots x; short = why.short }

-- a row was refused: if it is an allowed one, for want of more
abbrev pub shorting : Reasons → Barred → Reasons
shorting why Short = record { slots = why.slots; short = true }
shorting why Closed = why

abbrev pub joining : Reasons → Reasons → Reasons
joining why more = record { slots = bit_or why.slots more.slots; short = why.short || more.short }

abbrev pub seeing : Reasons → ℕ → Reasons
seeing why last = record { slots = cond (eqb last 0) why.slots (below32 why.slots); short = why.short }

-- no slot of the set `new` is to blame, and rows were not short or the guess took none
pub record Hopeless (why : Reasons) (new : ℕ) (free : Bool) : Type 0 where
  pub apart : (x : ℕ) → Has why.slots x → Has new x → ⊥
  pub rows : (free ≡ true) ⊎ (why.short ≡ false)

-- no other target helps
pub record Settled (why : Reasons) (new : ℕ) (free : Bool) (answer : Bool) : Type 0 where
  pub exactly : (answer ≡ true) ↔ Hopeless why new free
