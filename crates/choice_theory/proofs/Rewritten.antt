-- Ascending row numbers and ascending lists of rows: the same lists work, in the same order.
use mathlib.Core.Path.{◌≡◌, refl, sym, ap, ap₂, subst}
use mathlib.Core.Logic.{◌⊎◌, inl, inr, ◌↔◌}
use mathlib.Core.List.Memᴰ
use mathlib.Core.List.{List, [], ◌∷◌}
use Prim.Native.Nat.{ℕ, ◌<◌}
use lib.ListN.{length}
use Rattle.spec.specs.Words.{◌∈◌, Term, Subgoal, Rule}
use Rattle.spec.specs.Summaries.{Summaries, SummaryRow}
use Rattle.spec.specs.Order.{ListBefore, RowBefore}
use Rattle.spec.specs.Answer.{Rewrites}
use Rattle.spec.proofs.Lists.Strict.{one_way, numbers-compare}
use Rattle.spec.proofs.Decided.Orders.{row_order}
use Rattle.spec.proofs.Lists.Rising.{Rising, rising-map, rising-ascending, ascending-rising}
use Rattle.spec.proofs.Lists.Enumerate.{Enumerates}
use Rattle.spec.proofs.Lists.At.{get_or-in, in-get_or, rising-get_or}
use Rattle.spec.proofs.Decided.Rows.{RowList}
use Rattle.containment.proofs.ListsOfRows.{AllRows, rows_back}
use Rattle.choice_theory.specs.Numbered.{nothing, row_at, rows_at, Numbers, InRowList, WorksOn}
use Rattle.choice_theory.proofs.Works.{works-maps, maps-works}

-- Rows that ascend with their numbers.
module _ (rows : RowList) (rises : Rising RowBefore rows) where
  later-row : (u v : ℕ) → u < length rows → RowBefore (row_at rows u) (row_at rows v) → u < v
  later-row u v h b = go (numbers-compare u v)
    where
      go : (u < v) ⊎ ((u ≡ v) ⊎ (v < u)) → u < v
      go (inl l) = l
      go (inr (inl e)) = absurd (row_order.never (row_at rows u) (subst (λ z. RowBefore (row_at rows u) (row_at rows z)) (sym e) b))
      go (inr (inr l)) = absurd (one_way row_order (row_at rows u) (row_at rows v) b (rising-get_or RowBefore nothing rows rises v u l h))

  pub rows_at-rising : (ns : List ℕ) → Numbers (length rows) ns → Rising RowBefore (rows_at rows ns)
  rows_at-rising ns n = rising-map ◌<◌ RowBefore (row_at rows) ns n.rising (λ u v i j h. rising-get_or RowBefore nothing rows rises u v h (n.within v j))

  pub rows_at-before : (ns ms : List ℕ) → ((u : ℕ) → u ∈ ms → u < length rows) → ListBefore ◌<◌ ns ms → ListBefore RowBefore (rows_at rows ns) (rows_at rows ms)
  rows_at-before [] [] w h = h
  rows_at-before [] (m ∷ ms) w h = tt
  rows_at-before (n ∷ ns) [] w h = h
  rows_at-before (n ∷ ns) (m ∷ ms) w (inl h) = inl (rising-get_or RowBefore nothing rows rises n m h (w m (Memᴰ.head refl)))
  rows_at-before (n ∷ ns) (m ∷ ms) w (inr h) = inr (ap (row_at rows) h.0, rows_at-before ns ms (λ u i. w u (Memᴰ.tail i)) h.1)

  -- Each ascending list of some of the rows has its numbers.
  pub numbers_of : (l : RowList) → Rising RowBefore l → ((g : Subgoal (Term ℕ)) → g ∈ l → g ∈ rows) → (ns : List ℕ) × Numbers (length rows) ns × (rows_at rows ns ≡ l)
  numbers_of [] r h = ([], record { rising = tt; within = λ u m. absurd (Memᴰ.not-nil m) }, refl)
  numbers_of (g ∷ l) r h = go (in-get_or nothing rows (h g (Memᴰ.head refl))) (numbers_of l r.1 (λ b i. h b (Memᴰ.tail i)))
    where
      go : (n : ℕ) × (n < length rows) × (row_at rows n ≡ g) → (ns : List ℕ) × Numbers (length rows) ns × (rows_at rows ns ≡ l) → (ns : List ℕ) × Numbers (length rows) ns × (rows_at rows ns ≡ g ∷ l)
      go w rest = (w.0 ∷ rest.0, record { rising = (after, rest.1.rising); within = within }, ap₂ ◌∷◌ w.2 rest.2)
        where
          after : (u : ℕ) → u ∈ rest.0 → w.0 < u
          after u i = later-row w.0 u w.1 (rw w.2 (r.0 (row_at rows u) (subst (λ z. row_at rows u ∈ z) rest.2 (Memᴰ.map (row_at rows) i))))

          within : (u : ℕ) → u ∈ (w.0 ∷ rest.0) → u < length rows
          within u (Memᴰ.head e) = rw e w.1
          within u (Memᴰ.tail i) = rest.1.within u i

module _ (s : Summaries) (q : Rule ℕ) (rows : RowList) (all : Enumerates (SummaryRow s q) RowBefore rows) where
  pub rows_at-rows : (ns : List ℕ) → ((u : ℕ) → u ∈ ns → u < length rows) → AllRows s q (rows_at rows ns)
  rows_at-rows ns within g m = let w = Memᴰ.of_map (row_at rows) ns m in all.sound g (Memᴰ.cast (sym w.2) (get_or-in nothing rows w.0 (within w.0 w.1)))

  pub works-rewrites : (ns : List ℕ) → Numbers (length rows) ns → WorksOn s q rows (InRowList ns) → Rewrites s q (rows_at rows ns)
  works-rewrites ns n w = record {
    rows = rows_at-rows ns n.within;
    ascending = rising-ascending (rows_at rows ns) (rows_at-rising rows all.rising ns n);
    equivalent = record { there = works-maps s q rows ns w; back = rows_back s q (rows_at rows ns) (rows_at-rows ns n.within) };
  }

  -- Ascending numbers work exactly if their rows are an equivalent list.
  pub rewrites-is : (ns : List ℕ) → Numbers (length rows) ns → WorksOn s q rows (InRowList ns) ↔ Rewrites s q (rows_at rows ns)
  rewrites-is ns n = (works-rewrites ns n, λ r. maps-works s q rows ns n.within r.equivalent.there)

  -- Each equivalent list has its numbers, and they work.
  pub rewrites-numbers : (l : RowList) → Rewrites s q l → (ns : List ℕ) × Numbers (length rows) ns × (rows_at rows ns ≡ l) × WorksOn s q rows (InRowList ns)
  rewrites-numbers l r =
      let w = numbers_of rows all.rising l (ascending-rising l r.ascending) (λ g i. all.complete g (r.rows g i)) in
      (w.0, w.1, w.2, (rewrites-is w.0 w.1).1 (rw w.2 r))
