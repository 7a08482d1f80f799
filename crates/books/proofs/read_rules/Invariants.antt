use Rattle.books.proofs.Entries.{SoundUpTo}
use Rattle.books.proofs.read_rules.Given as goal

-- the entries before i are sound
abbrev pub invariant-loop-i : goal.invariant-loop-i
invariant-loop-i l = SoundUpTo l.book l.i
