use mathlib.Core.Path.{ap, ap₂, ◌∙◌}
use Prim.Native.Nat.{◌+◌, ◌*◌}
use native.Mathlib.Omega.{arith}
use lib.ListN.{length, get_or, set, length-set}
use lib.Seq.{sets}
use Rattle.answer.specs.Bytes.{rows_bytes}
use Rattle.answer.proofs.RuleStores.{head-put, rule-stored, rule-place}
use Rattle.answer.proofs.rule_bytes.put_rule.Goals as goal

pub returns : goal.returns
returns c =
    let w = c.requires in
    let a = c.args in
    let heads = c.from.ensures in
    let base = set (set a.out.now 0 (get_or a.body.now 0 0)) 1 (length a.widths.now) in
    let room = w.room in
    let short = w.short in
    let put = head-put a.body.now a.codes.now a.widths.now w.head base heads (simp length-set (omega arith)) c.copy_from_slice.ensures.after in
    let e = c.put_rows.ensures in (
      e.0 ∙ ap₂ (λ o n. sets o (2 + 5 * n) (rows_bytes a.codes.now a.widths.now)) put heads ∙ rule-stored a.body.now a.codes.now a.widths.now w.head base,
      e.1 ∙ ap (λ n. 2 + 5 * n + length (rows_bytes a.codes.now a.widths.now)) heads ∙ rule-place a.body.now a.codes.now a.widths.now w.head,
    )
