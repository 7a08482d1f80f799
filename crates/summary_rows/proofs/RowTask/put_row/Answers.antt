use mathlib.Core.Path.{◌≡◌, sym, ◌∙◌}
use native.Mathlib.Omega.{arith}
use borrow.Author.Rules.{rules}
use Rattle.std.proofs.lemmas.Slice.{put_mid-paste}
use Rattle.summary_rows.proofs.RowCodes.{row-long, row-start, row-push}
use Rattle.summary_rows.proofs.RowTask.put_row.Goals as goal

pub loop-i-init : goal.loop-i-init
loop-i-init c = row-start _ _

pub loop-i-preserved : goal.loop-i-preserved
loop-i-preserved c =
    let short = c.args.self.now.ready.short in
    rw c.loop-i.invariant (row-push _ _ _ _ _ _ (search rules) (omega arith) c.from.ensures c.target_term.ensures)

pub returns : goal.returns
returns c =
    let whole : c.loop-i.i ≡ c.args.self.now.head = omega arith in
    put_mid-paste _ _ _ _ _ _ (c.copy_from_slice.ensures.after ∙ rw whole at c.loop-i.invariant) (omega arith) (sym (row-long _ _ _))
