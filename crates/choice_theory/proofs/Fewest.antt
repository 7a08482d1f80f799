-- The least number of rows that can do: tried from 0 up, at most the number of the question's subgoals; and whether any list works.
use mathlib.Core.Path.{ap}
use mathlib.Core.Logic.{◌↔◌}
use mathlib.Core.List.{List, [], ◌++◌}
use Prim.Native.Nat.{ℕ, ◌+◌, ◌≤◌, ◌<◌}
use native.Mathlib.Omega.{arith}
use native.Mathlib.Decide.{dec_lt}
use lib.ListN.{length, length-map}
use Rattle.spec.specs.Words.{Rule}
use Rattle.spec.specs.Summaries.{Summaries, SummaryRow}
use Rattle.spec.specs.Order.{RowBefore}
use Rattle.spec.specs.Answer.{Rewrites}
use Rattle.spec.proofs.Lists.Enumerate.{Enumerates}
use Rattle.spec.proofs.Lists.Counted.{counted, counted-in, counted-out, counted-rising}
use Rattle.spec.proofs.Decided.Rows.{RowList}
use Rattle.containment.proofs.Shortened.{shorten}
use Rattle.choice_theory.specs.Numbered.{row_at, WorksOn}
use Rattle.choice_theory.proofs.Works.{works-more}
use Rattle.choice_theory.proofs.Rewritten.{works-rewrites, rewrites-numbers}
use Rattle.choice_theory.specs.Can.{Any, Can}
use Rattle.choice_theory.specs.Going.{AtLeast, PassState}
use Rattle.choice_theory.proofs.Frame.{going-works}

module _ (s : Summaries) (q : Rule ℕ) (rows : RowList) where
  pub at-least-start : AtLeast s q rows 0
  at-least-start ns n w = omega arith

  -- k rows cannot do: then at least one more is needed.
  pub at-least-next : (k : ℕ) → AtLeast s q rows k → (Can s q rows [] 0 k → ⊥) → AtLeast s q rows (k + 1)
  at-least-next k least cannot ns n w = go (dec_lt k (length ns)) (least ns n w)
    where
      go : Dec (k < length ns) → k ≤ length ns → k + 1 ≤ length ns
      go (yes h) l = omega arith
      go (no h) l = absurd (cannot record { more = ns; rising = n.rising; later = λ u i. (omega arith, n.within u i); few = omega arith; works = w })

  module _ (all : Enumerates (SummaryRow s q) RowBefore rows) where
    -- Where a list works, no more rows are needed than the question has subgoals. So none works if more are needed.
    pub at-least-few : (k : ℕ) → AtLeast s q rows k → (l : RowList) → Rewrites s q l → k ≤ length q.body
    at-least-few k least l r =
        let o = (shorten s q l r).ordered in
        let w = rewrites-numbers s q rows all o.list o.rewrites in
        omega (arith, o.few, least w.0 w.1 w.3, length-map w.0 (row_at rows), ap length w.2)

    pub at-least-none : (k : ℕ) → AtLeast s q rows k → length q.body < k → (l : RowList) → Rewrites s q l → ⊥
    at-least-none k least many l r = omega (arith, at-least-few k least l r)

    -- The rows to take are no more than the question's subgoals.
    pub going-few : {p : List ℕ} {from left : ℕ} → PassState s q rows p from left → length p + left ≤ length q.body
    going-few {p} {from} {left} g =
        let w = going-works s q rows g in
        at-least-few (length p + left) g.fewest _ (works-rewrites s q rows all (p ++ g.can.more) w.1 w.0)

    -- The list of all rows decides whether there is an equivalent list: refusal 10.
    pub all-works : WorksOn s q rows Any ↔ ((l : RowList) × Rewrites s q l)
    all-works = (some-list, λ w. works-more s q rows (λ u h i. tt) (rewrites-numbers s q rows all w.0 w.1).3)
      where
        every : List ℕ
        every = counted 0 (length rows)

        some-list : WorksOn s q rows Any → (l : RowList) × Rewrites s q l
        some-list w = (
          _,
          works-rewrites s q rows all every
              record { rising = counted-rising 0 (length rows); within = λ u i. let h = counted-out 0 (length rows) u i in omega arith }
              (works-more s q rows (λ u h i. counted-in 0 (length rows) u (omega arith) (omega arith)) w),
        )
