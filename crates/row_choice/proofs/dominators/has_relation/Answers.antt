use mathlib.Core.Path.{◌≡◌, ap, ◌∙◌}
use native.Mathlib.Omega.{arith}
use Rattle.std.proofs.Common.{rules}
use Rattle.std.proofs.lemmas.Bool.{MatchBool-at_false}
use Rattle.std.proofs.lemmas.Option.{IfSome_then}
use Rattle.std.specs.Slice.Iter.{chunks_exact_size, chunks_exact_rest}
use Rattle.row_choice.proofs.Chunks.{no-chunk}
use Rattle.row_choice.proofs.dominators.has_relation.Goals as goal

pub returns : goal.returns
returns c = record {
  none = λ e.
      let run = c.any.ensures.runs in
      let all = MatchBool-at_false _ _ e run.2 in
      let size : chunks_exact_size run.0.from ≡ 9 = ap chunks_exact_size run.1 ∙ c.chunks_exact.ensures.size in
      no-chunk run.0 _ _ size (ap chunks_exact_rest run.1 ∙ c.chunks_exact.ensures.rest) (c.chunks_exact.ensures.runs run.0 run.0.seen (omega arith)) all.0
      (λ k. IfSome_then (run.0.at k) (all.1 (λ a r g w. search rules) k) (λ x w. search rules));
}
