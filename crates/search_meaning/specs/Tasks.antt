-- The tasks of placing that the rewriter poses, as the codes of the question and of uses of rows.
use Rattle.std.specs.Prelude.{List, ℕ}
use Rattle.spec.specs.Words.{Term, Subgoal, Rule}
use Rattle.spec.specs.Summaries.{Summaries, in_place, uses, joined}
use Rattle.codes.specs.Code.{term_code, own_code, slot_code, own_slot, kept_slot, codes_of, widths_of}
use Rattle.task.specs.Task.{Task, posed}
use Rattle.search_meaning.specs.Uses.{ends_of}

-- From the question to the uses of the rows l. A question is one use: what `lasts` says does not matter.
abbrev pub there_task : Summaries → Rule ℕ → List (Subgoal (Term ℕ)) → List ℕ → List ℕ → Task
there_task s q l lasts own = posed (codes_of slot_code q.body) (widths_of q.body) lasts (codes_of own_code (joined (uses s 0 l))) own

-- And back.
abbrev pub back_task : Summaries → Rule ℕ → List (Subgoal (Term ℕ)) → List ℕ → Task
back_task s q l own = posed (codes_of own_slot (joined (uses s 0 l))) (widths_of (joined (uses s 0 l))) (ends_of (uses s 0 l)) (codes_of term_code q.body) own

-- From the use of row r, numbered u, to the use of row g, numbered v, where the rows' own terms stay. One use: what `lasts` says does not matter.
abbrev pub use_task : Summaries → ℕ → Subgoal (Term ℕ) → ℕ → Subgoal (Term ℕ) → List ℕ → List ℕ → Task
use_task s u r v g lasts own = posed (codes_of kept_slot (in_place s u r)) (widths_of (in_place s u r)) lasts (codes_of own_code (in_place s v g)) own
