-- One row's use against another's.
use mathlib.Core.Path.{◌≡◌, refl, sym, ap, ◌∙◌}
use mathlib.Core.Bool.{Bool, false}
use mathlib.Core.List.{List}
use Prim.Native.Nat.{ℕ, ◌*◌, ◌/◌, ◌<◌, ◌≤◌}
use native.Mathlib.Omega.{arith}
use lib.ListN.{length, get_or, take, replicate}
use Rattle.spec.specs.Words.{Term, Subgoal}
use Rattle.spec.specs.Summaries.{Summaries, Own, in_place}
use Rattle.spec.proofs.Lists.At.{in-get_or, get_or-in}
use Rattle.spec.proofs.Lists.Zeros.{zeros-at, zeros-long}
use Rattle.choice_theory.specs.Numbered.{nothing, row_at}
use Rattle.choice_theory.specs.Dominates.{Dominates}
use Rattle.codes.specs.Code.{own_code, kept_slot}
use Rattle.codes.proofs.Padded.{codes-length, widths-length}
use Rattle.task.specs.Task.{posed}
use Rattle.search_meaning.proofs.AtCodes.{relation-at}
use Rattle.search_meaning.proofs.InUse.{use-few, use-some}
use Rattle.first_shortest.specs.Pruning.{UsesBy, DominanceNeeds, DominanceSays}
use Rattle.row_choice.specs.Dominators.{SoundRows, Pair, PairNeeds, NoRelation, PairSays}
use Rattle.spec.proofs.Decided.Rows.{RowList}

-- "summary 1 to 8" subgoals
row-few : {s : Summaries} {rows : RowList} → SoundRows s rows → (r : ℕ) → r < length rows → length (in_place s r (row_at rows r)) ≤ 8
row-few {s} {rows} o r h = use-few o.arities s o.question o.bounds rows o.within (row_at rows r) (get_or-in nothing rows r h) r

module _ {source widths target : List ℕ} where
  module _ {s : Summaries} {rows : RowList} {d r : ℕ} (p : Pair s rows d r source widths target) where
    goals-are : length widths ≡ length (in_place s r (row_at rows r))
    goals-are = ap length p.under.counts ∙ widths-length (in_place s r (row_at rows r))

    targets-are : length target / 9 ≡ length (in_place s d (row_at rows d))
    targets-are = let n : length target ≡ 9 * length (in_place s d (row_at rows d)) = ap length p.codes ∙ codes-length own_code (in_place s d (row_at rows d)) in omega arith

    few-goals : length widths ≤ 8
    few-goals = omega (arith, goals-are, row-few p.sound r p.under.there)

    few-targets : length target / 9 ≤ 8
    few-targets = omega (arith, targets-are, row-few p.sound d p.over)

    uses-by : UsesBy s rows d r (posed source widths (take (length widths) (replicate 8 0)) target (take (length target / 9) (replicate 8 0)))
    uses-by = record {
      arities = p.sound.arities;
      question = p.sound.question;
      bounds = p.sound.bounds;
      within = p.sound.within;
      over = p.over;
      under = p.under.there;
      codes = λ i. posed (p.under.codes i) (p.under.counts i) (take (length widths) (replicate 8 0)) (p.codes i) (take (length target / 9) (replicate 8 0));
      marked = zeros-long (length widths) few-goals ∙ goals-are;
      owned = zeros-long (length target / 9) few-targets ∙ targets-are;
      sets = λ k. omega (arith, zeros-at (length target / 9) 8 k);
    }

  module _ (p : PairNeeds source widths target) where
    pub pair-goals : length widths ≤ 8
    pair-goals = few-goals p.is

    pub pair-targets : length target / 9 ≤ 8
    pair-targets = few-targets p.is

    pub pair-uses : DominanceNeeds (posed source widths (take (length widths) (replicate 8 0)) target (take (length target / 9) (replicate 8 0)))
    pair-uses = record { summaries = p.summaries; rows = p.rows; over = p.d; under = p.r; by = uses-by p.is }

  pub pair-tells : {answer : Bool} → DominanceSays (posed source widths (take (length widths) (replicate 8 0)) target (take (length target / 9) (replicate 8 0))) answer → PairSays source widths target answer
  pair-tells t = record { exactly = λ s rows d r p. t.exactly s rows d r (uses-by p) }

  -- the first subgoal of row r's use has to become one of row d's
  module _ {s : Summaries} {rows : RowList} {d r : ℕ} (p : Pair s rows d r source widths target) where
    some-goal : 1 ≤ length (in_place s r (row_at rows r))
    some-goal = use-some p.sound.arities s p.sound.question p.sound.bounds rows p.sound.within (row_at rows r) (get_or-in nothing rows r p.under.there) r

    pub source-some : 9 ≤ length source
    source-some = omega (arith, ap length p.under.codes, codes-length kept_slot (in_place s r (row_at rows r)), some-goal)

    not-over : NoRelation target (get_or source 0 0) false → Dominates s rows d r → ⊥
    not-over n o =
        let first = get_or (in_place s r (row_at rows r)) 0 nothing in
        let w = in-get_or nothing (in_place s d (row_at rows d)) (o.holds first (get_or-in nothing (in_place s r (row_at rows r)) 0 some-goal)) in
        let z : 9 * 0 ≡ 0 = omega arith in
        let from : get_or source 0 0 ≡ first.relation = ap (λ x. get_or x 0 0) p.under.codes ∙ relation-at kept_slot (in_place s r (row_at rows r)) 0 some-goal in
        let to : get_or target (9 * w.0) 0 ≡ first.relation = ap (λ x. get_or x (9 * w.0) 0) p.codes ∙ relation-at own_code (in_place s d (row_at rows d)) w.0 w.1 ∙ ap (λ (g : Subgoal (Term (Own ℕ))). g.relation) w.2 in
        n.none refl w.0 (omega (arith, targets-are p, w.1)) (to ∙ sym from)

  pub pair-apart : NoRelation target (get_or source 0 0) false → PairSays source widths target false
  pair-apart n = record { exactly = λ s rows d r p. (λ e. absurd (let z : ◌≡◌ {A = ℕ} 0 1 = cc in omega arith), λ o. absurd (not-over p n o)) }
