-- What the checker says yes to: "The checker takes a book, a rewriting and a witness, each as bytes, and writes nothing."
use Rattle.std.specs.Prelude.{◌≡◌, Bool, true, ◌↔◌, List, ◌++◌, ℕ, ◌≤◌, length}
use Rattle.spec.specs.Words.{◌∈◌, Term, Subgoal, Rule}
use Rattle.spec.specs.Summaries.{OverAll}
use Rattle.spec.specs.Answer.{There, Back}
use Rattle.spec.specs.Book.{Book, admitted_of}
use Rattle.spec.specs.RuleLayout.{TermsWithin, rule_bytes}
use Rattle.spec.specs.BookLayout.{SoundBook, question_most}

-- "one whole rule by the layout with 1 to 12 subgoals over admitted summaries and the question's head"
pub record RewritingRule (b : Book) (r : Rule ℕ) : Type 0 where
  pub some : 1 ≤ length r.body
  pub few : length r.body ≤ question_most
  pub over : OverAll (admitted_of b) r
  pub within : (g : Subgoal (Term ℕ)) → g ∈ r.body → TermsWithin g.terms
  pub head : r.head ≡ b.question.head

-- "Yes exactly if: the book loads through 8; the rewriting is one whole rule ..; the witness has exactly the needed length; and both parts are containment mappings."
pub record Truth (book rewriting witness : List ℕ) : Type 0 where
  pub value : Book
  pub sound : SoundBook book value
  pub rule : Rule ℕ
  pub written : rule_bytes rule ≡ rewriting
  pub is : RewritingRule value rule
  pub there : List ℕ
  pub back : List ℕ
  -- no byte is left over, and none is missing: each part is as long as what it places
  pub whole : witness ≡ there ++ back
  pub goes : There (admitted_of value) value.question rule there
  pub returns : Back (admitted_of value) value.question rule back

pub record Checks (book rewriting witness : List ℕ) (answer : Bool) : Type 0 where
  pub exactly : (answer ≡ true) ↔ Truth book rewriting witness
