-- The promise leaves no choice: two results that meet it are the same.
use mathlib.Core.Path.{◌≡◌, refl, sym, ap, ap₂, subst, ◌∙◌}
use mathlib.Core.Logic.{◌⊎◌, inl, inr}
use mathlib.Core.List.Memᴰ
use mathlib.Core.List.{List, [], ◌∷◌, ◌++◌}
use Rattle.std.specs.Prelude.{Option, Some, None}
use Prim.Native.Nat.{ℕ, ◌-◌, ◌<◌}
use native.Mathlib.Omega.{arith}
use lib.ListN.{length, replicate, take-append-drop}
use Rattle.spec.specs.Words.{◌∈◌, Rule}
use Rattle.spec.specs.Summaries.{Summaries}
use Rattle.spec.specs.Order.{RowBefore}
use Rattle.spec.proofs.Lists.Strict.{first-unique, numbers-compare}
use Rattle.spec.proofs.Decided.Orders.{row_order, shorter_order}
use Rattle.spec.proofs.Lists.Rising.{Rising}
use Rattle.spec.proofs.Lists.At.{rising-get_or}
use Rattle.spec.proofs.Decided.Rows.{RowList}
use Rattle.choice_theory.specs.Numbered.{nothing, row_at, rows_at}
use Rattle.task.specs.Task.{Task}
use Rattle.first_shortest.specs.Posed.{Posed}
use Rattle.first_shortest.specs.Chosen.{numbers_of, Found, ChosenBy, ChoiceSays}
use Rattle.first_shortest.specs.declared.Chosen.{Chosen}

-- rows that ascend are told by their numbers
module _ (rows : RowList) (rises : Rising RowBefore rows) where
  apart : (u v : ℕ) → u < v → v < length rows → row_at rows u ≡ row_at rows v → ⊥
  apart u v l h e = row_order.never (row_at rows v) (subst (λ g. RowBefore g (row_at rows v)) e (rising-get_or RowBefore nothing rows rises u v l h))

  row-once : (u v : ℕ) → u < length rows → v < length rows → row_at rows u ≡ row_at rows v → u ≡ v
  row-once u v h k e = go (numbers-compare u v)
    where
      go : (u < v) ⊎ ((u ≡ v) ⊎ (v < u)) → u ≡ v
      go (inl l) = absurd (apart u v l k e)
      go (inr (inl p)) = p
      go (inr (inr l)) = absurd (apart v u l h (sym e))

  numbers-once : (ns ms : List ℕ) → ((u : ℕ) → u ∈ ns → u < length rows) → ((u : ℕ) → u ∈ ms → u < length rows) → rows_at rows ns ≡ rows_at rows ms → ns ≡ ms
  numbers-once [] [] h k e = refl
  numbers-once [] (m ∷ ms) h k e = let z : ◌≡◌ {A = ℕ} 0 1 = cc in absurd (omega arith)
  numbers-once (n ∷ ns) [] h k e = let z : ◌≡◌ {A = ℕ} 0 1 = cc in absurd (omega arith)
  numbers-once (n ∷ ns) (m ∷ ms) h k e = ap₂ ◌∷◌
      (row-once n m (h n (Memᴰ.head refl)) (k m (Memᴰ.head refl)) (cc))
      (numbers-once ns ms (λ u i. h u (Memᴰ.tail i)) (λ u i. k u (Memᴰ.tail i)) (cc))

-- the numbers chosen say the whole result
laid : {s : Summaries} {q : Rule ℕ} {rows : RowList} (r : Chosen) → Found s q rows r → r.rows ≡ numbers_of r ++ replicate (12 - length (numbers_of r)) 0
laid r f = sym (take-append-drop r.k r.rows) ∙ ap (◌++◌ (numbers_of r)) (f.rest ∙ ap (λ n. replicate (12 - n) 0) (sym f.count))

module _ (s : Summaries) (q : Rule ℕ) (rows : RowList) (rising : Rising RowBefore rows) where
  found-once : (r o : Chosen) → Found s q rows r → Found s q rows o → r ≡ o
  found-once r o f g = λ i. record { k = counts i; rows = lists i }
    where
      numbers : numbers_of r ≡ numbers_of o
      numbers = numbers-once rows rising (numbers_of r) (numbers_of o) f.within g.within (first-unique shorter_order _ _ f.answer g.answer)

      counts : r.k ≡ o.k
      counts = sym f.count ∙ ap length numbers ∙ g.count

      lists : r.rows ≡ o.rows
      lists = laid r f ∙ ap (λ l. l ++ replicate (12 - length l) 0) numbers ∙ sym (laid o g)

  pub chosen-by-once : (r o : Option Chosen) → ChosenBy s q rows r → ChosenBy s q rows o → r ≡ o
  chosen-by-once (Some r) (Some o) f g = ap Some (found-once r o f g)
  chosen-by-once (Some r) None f n = absurd (n.none _ f.answer.holds)
  chosen-by-once None (Some o) n g = absurd (n.none _ g.answer.holds)
  chosen-by-once None None n m = refl

pub chosen-once : {t : Task} {b : List ℕ} {n : ℕ} (p : Posed t b n) (r o : Option Chosen) → ChoiceSays t b n r → ChoiceSays t b n o → r ≡ o
chosen-once p r o c d = chosen-by-once p.summaries p.question p.rows p.by.all.rising r o (c.by _ _ _ p.by) (d.by _ _ _ p.by)
