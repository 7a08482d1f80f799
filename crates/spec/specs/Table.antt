-- The whole refusal table of the rewriter: rows 1, 9 and 10 around the reading's 2 to 8.
use Rattle.std.specs.Prelude.{◌⊎◌, List, ℕ, ◌<◌, length}
use Rattle.spec.specs.Words.{◌∈◌, Term, Subgoal, Rule}
use Rattle.spec.specs.Summaries.{Summaries, SummaryRow}
use Rattle.spec.specs.Order.{Ascending}
use Rattle.spec.specs.Answer.{Rewrites}
use Rattle.spec.specs.Book.{Book, admitted_of}
use Rattle.spec.specs.BookLayout.{SoundBook}
use Rattle.spec.specs.Refusals.{of_book, Refusal}
use Rattle.spec.specs.declared.Reason.{Reason}

-- "answer area below 534 bytes, or witness area below 120"
abbrev pub answer_room : ℕ
answer_room = 534

abbrev pub witness_room : ℕ
witness_room = 120

abbrev pub Fault1 : ℕ → ℕ → Type 0
Fault1 answer witness = (answer < answer_room) ⊎ (witness < witness_room)

-- "more than 64 summary rows"; equal rows count once, so they are listed ascending
abbrev pub most_rows : ℕ
most_rows = 64

pub record Fault9 (s : Summaries) (q : Rule ℕ) : Type 0 where
  pub rows : List (Subgoal (Term ℕ))
  pub each : (g : Subgoal (Term ℕ)) → g ∈ rows → SummaryRow s q g
  pub ascending : Ascending rows
  pub many : most_rows < length rows

-- "no equivalent rewriting" (of summary rows: by containment's `any-rewriting`, none of any kind then)
abbrev pub Fault10 : Summaries → Rule ℕ → Type 0
Fault10 s q = (l : List (Subgoal (Term ℕ))) → Rewrites s q l → ⊥

-- "Order: 1 to 5, then entry by entry 6, 7, 8, then 9, then 10." answer and witness are the areas' lengths.
pub data RewriterRefusal (book : List ℕ) (answer witness : ℕ) : Reason → Type 0 where
  one : Fault1 answer witness → RewriterRefusal book answer witness (of_book 1)
  read : {r : Reason} → (Fault1 answer witness → ⊥) → Refusal book r → RewriterRefusal book answer witness r
  nine : (Fault1 answer witness → ⊥) → (b : Book) → SoundBook book b → Fault9 (admitted_of b) b.question → RewriterRefusal book answer witness (of_book 9)
  ten : (Fault1 answer witness → ⊥) → (b : Book) → SoundBook book b → (Fault9 (admitted_of b) b.question → ⊥) → Fault10 (admitted_of b) b.question → RewriterRefusal book answer witness (of_book 10)
