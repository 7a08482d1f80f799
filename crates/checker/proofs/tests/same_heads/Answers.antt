use Rattle.std.proofs.lemmas.Bool.Decides.{Decides-eqb}
use Rattle.std.proofs.lemmas.Slice.Eq.{slice_eq-Decides}
use Rattle.checker.proofs.HeadLaws.{heads-compared}
use Rattle.checker.proofs.tests.same_heads.Goals as goal

pub returns : goal.returns
returns c = heads-compared c.head_codes.ensures c.head_codes-2.ensures (slice_eq-Decides Decides-eqb _ _ _ c.eq.ensures)
