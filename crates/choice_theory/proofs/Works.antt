-- The question works on row numbers exactly if it maps into the expansion of the list of those rows: uses are renumbered by their places.
use mathlib.Core.Path.{◌≡◌, refl, sym, ap, ◌∙◌, subst, fun_ext}
use mathlib.Core.List.{List, map}
use Prim.Native.Nat.{ℕ, ◌<◌}
use native.Mathlib.Nat.{add-zero}
use lib.ListN.{length, length-map, get_or, get_or-map}
use Rattle.spec.specs.Words.{◌∈◌, Term, var, con, Subgoal, Rule, Facts, becomes, each, Yields, Mapping}
use Rattle.spec.specs.Summaries.{Summaries, Own, old, fresh, kept, uses, joined, expansion, rewriting}
use Rattle.spec.proofs.Lists.At.{place-get_or, get_or-in, index, index-place}
use Rattle.spec.proofs.Decided.Rows.{RowList}
use Rattle.containment.proofs.Carry.{terms-after, carry, more}
use Rattle.containment.proofs.Places.{used, in-use}
use Rattle.containment.proofs.Expand.{extended}
use Rattle.choice_theory.specs.Numbered.{row_at, rows_at, InRowList, InChosenUse, kept_head, WorksOn}
use Rattle.choice_theory.proofs.Moved.{renumbered}

-- What keeps the old variables takes a mapping to a mapping.
pub moved : (q : Rule ℕ) (ξ : Own ℕ → Term (Own ℕ)) {d d' : Facts (Term (Own ℕ))} → ((x : ℕ) → ξ (old x) ≡ kept x) → ((c : Subgoal (Term (Own ℕ))) → d c → d' (each (becomes con ξ) c))
    → Yields con q d (kept_head q) → Yields con q d' (kept_head q)
moved q ξ {d} {d'} olds facts y =
    subst (Yields con q d') (terms-after con kept ξ q.head ∙ ap (λ f. map (becomes con f) q.head) (fun_ext olds)) (carry (becomes con ξ) q (λ c i. refl) facts y)

module _ (s : Summaries) (q : Rule ℕ) (rows : RowList) where
  -- More rows never lose the mapping.
  pub works-more : {Chosen Wider : ℕ → Type 0} → ((u : ℕ) → u < length rows → Chosen u → Wider u) → WorksOn s q rows Chosen → WorksOn s q rows Wider
  works-more wider y = more (λ c l. record { row = l.row; within = l.within; chosen = wider l.row l.within l.chosen; inside = l.inside }) y

  module _ (ns : List ℕ) where
    pub works-maps : WorksOn s q rows (InRowList ns) → Mapping q (expansion s (rewriting q (rows_at rows ns)))
    works-maps = moved q ξ (λ x. refl) lands
      where
        ξ : Own ℕ → Term (Own ℕ)
        ξ = extended kept (λ u x. var (fresh (index u ns) x))

        lands : (c : Subgoal (Term (Own ℕ))) → InChosenUse s rows (InRowList ns) c → each (becomes con ξ) c ∈ joined (uses s 0 (rows_at rows ns))
        lands c l = in-use s 0 (rows_at rows ns) (each (becomes con ξ) c) record {
          by = index l.row ns;
          of = row_at rows l.row;
          at = index-place (row_at rows) l.row ns l.chosen;
          inside = rw add-zero (renumbered s (row_at rows l.row) l.row (index l.row ns) ξ (λ x. refl) (λ x. refl) c l.inside);
        }

    pub maps-works : ((u : ℕ) → u ∈ ns → u < length rows) → Mapping q (expansion s (rewriting q (rows_at rows ns))) → WorksOn s q rows (InRowList ns)
    maps-works within = moved q ξ (λ x. refl) lands
      where
        ξ : Own ℕ → Term (Own ℕ)
        ξ = extended kept (λ j x. var (fresh (get_or ns j 0) x))

        lands : (c : Subgoal (Term (Own ℕ))) → c ∈ joined (uses s 0 (rows_at rows ns)) → InChosenUse s rows (InRowList ns) (each (becomes con ξ) c)
        lands c m =
            let w = used s 0 (rows_at rows ns) c m in
            let at = place-get_or (row_at rows 0) (rows_at rows ns) w.by w.of w.at in
            let short : w.by < length ns = rw (length-map ns (row_at rows)) at at.0 in
            let same : row_at rows (get_or ns w.by 0) ≡ w.of = sym (get_or-map (row_at rows) ns w.by 0) ∙ at.1 in
            record {
              row = get_or ns w.by 0;
              within = within (get_or ns w.by 0) (get_or-in 0 ns w.by short);
              chosen = get_or-in 0 ns w.by short;
              inside = rw same (renumbered s w.of w.by (get_or ns w.by 0) ξ (λ x. refl) (λ x. refl) c (rw add-zero at w.inside));
            }
