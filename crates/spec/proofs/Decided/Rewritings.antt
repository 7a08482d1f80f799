-- The answer computed: the first of all equivalent ascending lists of summary rows, the shortest first.
use mathlib.Core.Path.{◌≡◌, sym, ◌∙◌, subst}
use mathlib.Core.Logic.{inl, inr, ◌↔◌}
use mathlib.Core.Bool.{Bool}
use mathlib.Core.Option.{Option, some, none}
use mathlib.Core.List.{List}
use Prim.Native.Nat.{ℕ, suc, ◌<◌}
use native.Mathlib.Omega.{arith}
use lib.ListN.{length}
use Rattle.spec.specs.Words.{◌∈◌, Term, Subgoal, Rule}
use Rattle.spec.specs.Summaries.{Summaries, SummaryRow, rewriting}
use Rattle.spec.specs.Order.{ListBefore, RowBefore, ShorterFirst}
use Rattle.spec.specs.Answer.{Rewrites, Answer}
use Rattle.spec.proofs.Decided.Sound.{AllSafe}
use Rattle.spec.proofs.Decided.Equal.{eq_number}
use Rattle.spec.proofs.Lists.Gathered.{gather, gather-in, gather-out, passing, passing-in, passing-out, first}
use Rattle.spec.proofs.Lists.Strict.{first-unique}
use Rattle.spec.proofs.Decided.Orders.{row_order, shorter_order}
use Rattle.spec.proofs.Lists.Rising.{Rising, rising-gather, rising-by, rising-passing, ascending-rising, rising-ascending}
use Rattle.spec.proofs.Lists.Enumerate.{Enumerates, enumerates-first, enumerates-some, enumerates-none}
use Rattle.spec.proofs.Lists.Counted.{counted, counted-in, counted-rising}
use Rattle.spec.proofs.Lists.Sublists.{sublists, Sublist, sublist, is-sublist, sublists-rising}
use Rattle.spec.proofs.Decided.Equivalents.{equivalent, equivalent-sound, equivalent-complete}
use Rattle.spec.proofs.Decided.Rows.{RowList, all_rows, all_rows-sound, all_rows-complete, all_rows-enumerate}

-- Of some rows, all ascending lists.
abbrev pub candidates : RowList → List RowList
candidates rows = gather (λ n. sublists n rows) (counted 0 (suc (length rows)))

candidates-out : (rows : RowList) → Rising RowBefore rows → (l : RowList) → l ∈ candidates rows → Sublist RowBefore (length l) rows l
candidates-out rows r l m =
    let n = gather-out (λ n. sublists n rows) (counted 0 (suc (length rows))) m in
    let s = sublist RowBefore n.0 rows r l n.2 in
    subst (λ k. Sublist RowBefore k rows l) (sym s.long) s

candidates-in : (rows : RowList) → Rising RowBefore rows → (l : RowList) → Rising RowBefore l → ((g : Subgoal (Term ℕ)) → g ∈ l → g ∈ rows) → l ∈ candidates rows
candidates-in rows r l p h =
    let i = is-sublist row_order rows l r p h in
    let s = sublist RowBefore (length l) rows r l i in
    gather-in (λ n. sublists n rows) (counted 0 (suc (length rows))) (counted-in 0 (suc (length rows)) (length l) (omega arith) (omega (arith, s.few))) i

candidates-rising : (rows : RowList) → Rising RowBefore rows → Rising ShorterFirst (candidates rows)
candidates-rising rows r = rising-gather ◌<◌ ShorterFirst (λ n. sublists n rows) (counted 0 (suc (length rows))) (counted-rising 0 (suc (length rows))) part across
  where
    long : (n : ℕ) (l : RowList) → l ∈ sublists n rows → length l ≡ n
    long n l i = (sublist RowBefore n rows r l i).long

    part : (n : ℕ) → n ∈ counted 0 (suc (length rows)) → Rising ShorterFirst (sublists n rows)
    part n i = rising-by (ListBefore RowBefore) ShorterFirst (sublists n rows) (sublists-rising row_order n rows r) (λ k l a b h. inr (long n k a ∙ sym (long n l b), h))

    across : (n m : ℕ) → n ∈ counted 0 (suc (length rows)) → m ∈ counted 0 (suc (length rows)) → n < m → (k l : RowList) → k ∈ sublists n rows → l ∈ sublists m rows → ShorterFirst k l
    across n m i j h k l a b = let p = long n k a in let q = long m l b in inl (omega arith)

module _ (s : Summaries) (q : Rule ℕ) where
  abbrev pub works : RowList → Bool
  works l = equivalent eq_number s q (rewriting q l)

  -- all of them, in the answer's order
  abbrev pub rewritings : List RowList
  rewritings = passing works (candidates (all_rows s q))

  abbrev pub answer : Option RowList
  answer = first rewritings

  module _ (safe : AllSafe s) where
    rows : Enumerates (SummaryRow s q) RowBefore (all_rows s q)
    rows = all_rows-enumerate s q safe

    pub rewritings-enumerate : Enumerates (Rewrites s q) ShorterFirst rewritings
    rewritings-enumerate = record { sound = sound; complete = complete; rising = rising-passing ShorterFirst works (candidates (all_rows s q)) (candidates-rising (all_rows s q) rows.rising) }
      where
        sound : (l : RowList) → l ∈ rewritings → Rewrites s q l
        sound l m =
            let p = passing-out works (candidates (all_rows s q)) m in
            let c = candidates-out (all_rows s q) rows.rising l p.0 in
            record { rows = λ g i. all_rows-sound s q g (c.within g i); ascending = rising-ascending l c.rising; equivalent = equivalent-sound eq_number s q (rewriting q l) p.1 }

        complete : (l : RowList) → Rewrites s q l → l ∈ rewritings
        complete l w = passing-in works (candidates (all_rows s q))
            (candidates-in (all_rows s q) rows.rising l (ascending-rising l w.ascending) (λ g i. all_rows-complete s q safe g (w.rows g i)))
            (equivalent-complete eq_number s q (rewriting q l) w.equivalent)

    pub answer-is : (l : RowList) → (answer ≡ some l) ↔ Answer s q l
    answer-is = enumerates-first shorter_order rewritings rewritings-enumerate

    pub answer-exists : (l : RowList) → Rewrites s q l → (m : RowList) × Answer s q m
    answer-exists = enumerates-some rewritings rewritings-enumerate

    pub answer-none : (answer ≡ none) ↔ ((l : RowList) → Rewrites s q l → ⊥)
    answer-none = enumerates-none rewritings rewritings-enumerate

-- there is one at most
pub answer-unique : (s : Summaries) (q : Rule ℕ) (l m : RowList) → Answer s q l → Answer s q m → l ≡ m
answer-unique s q l m = first-unique shorter_order l m
