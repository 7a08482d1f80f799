use mathlib.Core.Path.{ap, ◌∙◌}
use Prim.Native.Nat.{◌-◌}
use lib.ListN.{length, set}
use Rattle.book_codes.proofs.Stored.{marked-end}
use Rattle.book_codes.proofs.marks.mark_end.Goals as goal

pub returns : goal.returns
returns c = let n = length c.args.lasts.now in ap (λ l. set l (n - 1) 1) (c.fill.ensures.after (λ y e. e)) ∙ marked-end n c.requires
