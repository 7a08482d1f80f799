-- Theorem 2, last part: what is equivalent has an equivalent ascending list of summary rows, no longer; and the list of all rows decides.
use mathlib.Core.Path.{◌≡◌}
use mathlib.Core.Logic.Dec
use mathlib.Core.Logic.Iff
use mathlib.Core.Logic.{◌⊎◌, inl, inr, ◌↔◌}
use mathlib.Core.Bool.{Bool, true, false, cond}
use mathlib.Core.List.{List, [], ◌∷◌}
use Prim.Native.Nat.{ℕ, suc, ◌≤◌}
use native.Mathlib.Omega.{arith}
use lib.ListN.{length}
use Rattle.spec.specs.Words.{◌∈◌, Term, Subgoal, Rule, Mapping}
use Rattle.spec.specs.Summaries.{Summaries, expansion, rewriting}
use Rattle.spec.specs.Order.{ShorterFirst}
use Rattle.spec.specs.Answer.{Rewrites, Answer}
use Rattle.spec.proofs.Decided.Equal.{eq_number, eq_own}
use Rattle.spec.proofs.Decided.Decide.{dec_mapping}
use Rattle.spec.proofs.Lists.Strict.{Strict}
use Rattle.spec.proofs.Decided.Orders.{row_order}
use Rattle.spec.proofs.Lists.Rising.{rising-ascending, ascending-rising}
use Rattle.spec.proofs.Lists.Sublists.{sublists, is-sublist}
use Rattle.spec.proofs.Lists.Sorted.{insert, sorted, sorted-in, sorted-out, sorted-rising}
use Rattle.spec.proofs.Decided.Sound.{AllSafe}
use Rattle.spec.proofs.Decided.Rows.{all_rows, all_rows-sound, all_rows-complete, all_rows-ascending, all_rows-enumerate}
use Rattle.containment.proofs.ListsOfRows.{AllRows, rows_back, there-more}

module _ {A : Type 0} {Before : A → A → Type 0} (o : Strict Before) where
  insert-few : (a : A) (l : List A) → length (insert o a l) ≤ suc (length l)
  insert-few a [] = omega arith
  insert-few a (b ∷ l) = go (insert-few a l) (o.test a b) (o.test b a)
    where
      go : length (insert o a l) ≤ suc (length l) → (t u : Bool) → length (cond t (a ∷ b ∷ l) (cond u (b ∷ insert o a l) (b ∷ l))) ≤ suc (suc (length l))
      go ih true u = omega arith
      go ih false true = omega arith
      go ih false false = omega arith

  pub sorted-few : (l : List A) → length (sorted o l) ≤ length l
  sorted-few [] = omega arith
  sorted-few (a ∷ l) = omega (arith, insert-few a (sorted o l), sorted-few l)

-- An equivalent ascending list of summary rows, of at most so many rows.
pub record OrderedList (s : Summaries) (q : Rule ℕ) (many : ℕ) : Type 0 where
  pub list : List (Subgoal (Term ℕ))
  pub rewrites : Rewrites s q list
  pub few : length list ≤ many

-- The same, from the rows of a list.
pub record OrderedIn (s : Summaries) (q : Rule ℕ) (l : List (Subgoal (Term ℕ))) (many : ℕ) : Type 0 where
  pub ordered : OrderedList s q many
  pub within : (g : Subgoal (Term ℕ)) → g ∈ ordered.list → g ∈ l

-- Rows with the mapping there, put in order.
pub put-in-order : (s : Summaries) (q : Rule ℕ) (l : List (Subgoal (Term ℕ))) → AllRows s q l → Mapping q (expansion s (rewriting q l)) → OrderedIn s q l (length l)
put-in-order s q l rows there = record {
  ordered = record {
    list = sorted row_order l;
    rewrites = record {
      rows = rows';
      ascending = rising-ascending (sorted row_order l) (sorted-rising row_order l);
      equivalent = record { there = there-more s q l (sorted row_order l) (sorted-in row_order l) rows' there; back = rows_back s q (sorted row_order l) rows' };
    };
    few = sorted-few row_order l;
  };
  within = sorted-out row_order l;
}
  where
    rows' : AllRows s q (sorted row_order l)
    rows' g m = rows g (sorted-out row_order l g m)

-- The answer has no more rows than any other equivalent list.
pub answer-least : (s : Summaries) (q : Rule ℕ) (l m : List (Subgoal (Term ℕ))) → Answer s q l → Rewrites s q m → length l ≤ length m
answer-least s q l m a w = go (a.least m w)
  where
    go : (l ≡ m) ⊎ ShorterFirst l m → length l ≤ length m
    go (inl e) = rw e (omega arith)
    go (inr (inl h)) = omega arith
    go (inr (inr h)) = omega arith

-- The list of all rows decides whether any list works.
pub all-rows-decide : (s : Summaries) (q : Rule ℕ) → AllSafe s → ((l : List (Subgoal (Term ℕ))) × Rewrites s q l) ↔ Mapping q (expansion s (rewriting q (all_rows s q)))
all-rows-decide s q safe = (
  λ w. there-more s q w.0 (all_rows s q) (λ g m. all_rows-complete s q safe g (w.1.rows g m)) (all_rows-sound s q) w.1.equivalent.there,
  λ there. (all_rows s q, record { rows = all_rows-sound s q; ascending = all_rows-ascending s q; equivalent = record { there = there; back = rows_back s q (all_rows s q) (all_rows-sound s q) } }),
)

pub any-decided : (s : Summaries) (q : Rule ℕ) → AllSafe s → Dec ((l : List (Subgoal (Term ℕ))) × Rewrites s q l)
any-decided s q safe = Dec.of_iff (Iff.symm (all-rows-decide s q safe)) (dec_mapping eq_number (eq_own eq_number) q (expansion s (rewriting q (all_rows s q))))

-- A list that works is a sublist of the list of all rows.
pub within-all-rows : (s : Summaries) (q : Rule ℕ) → AllSafe s → (l : List (Subgoal (Term ℕ))) → Rewrites s q l → l ∈ sublists (length l) (all_rows s q)
within-all-rows s q safe l w = is-sublist row_order (all_rows s q) l (all_rows-enumerate s q safe).rising (ascending-rising l w.ascending) (λ g m. all_rows-complete s q safe g (w.rows g m))
