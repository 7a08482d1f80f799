-- An ascending list of summary rows is no longer than the list of all of them.
use mathlib.Core.List.{List}
use Prim.Native.Nat.{ℕ, ◌≤◌}
use lib.ListN.{length}
use Rattle.spec.specs.Words.{◌∈◌, Term, Subgoal, Rule}
use Rattle.spec.specs.Summaries.{Summaries, SummaryRow}
use Rattle.spec.specs.Order.{RowBefore, Ascending}
use Rattle.spec.proofs.Decided.Sound.{AllSafe}
use Rattle.spec.proofs.Decided.Orders.{row_order}
use Rattle.spec.proofs.Lists.Rising.{ascending-rising}
use Rattle.spec.proofs.Lists.Sublists.{sublist, is-sublist}
use Rattle.spec.proofs.Decided.Rows.{all_rows, all_rows-complete, all_rows-enumerate}

pub rows-within : (s : Summaries) (q : Rule ℕ) → AllSafe s → (l : List (Subgoal (Term ℕ))) → ((g : Subgoal (Term ℕ)) → g ∈ l → SummaryRow s q g) → Ascending l → length l ≤ length (all_rows s q)
rows-within s q safe l rows ascending =
    let all = (all_rows-enumerate s q safe).rising in
    (sublist RowBefore (length l) (all_rows s q) all l (is-sublist row_order (all_rows s q) l all (ascending-rising l ascending) (λ g m. all_rows-complete s q safe g (rows g m)))).few
