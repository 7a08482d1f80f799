-- The task whose mappings give the rows of one summary: the places of its head, then its body, are placed on the question's terms, in ascending order, then the question's body.
use Rattle.std.specs.Prelude.{◌≡◌, List, [], ◌∷◌, ◌++◌, map, ℕ, ◌*◌, ◌≤◌, length, replicate}
use Rattle.spec.specs.Words.{Term, Subgoal, Rule, Safe, DistinctVariables}
use Rattle.spec.specs.Order.{TermBefore}
use Rattle.spec.specs.RuleLayout.{RuleWithin}
use Rattle.spec.specs.BookLayout.{Arities, question_most, summary_most, most_arity}
use Rattle.spec.proofs.Lists.Enumerate.{Enumerates}
use Rattle.task.specs.Task.{Task}
use Rattle.search_meaning.specs.Coded.{TermIn, task}
use Rattle.search_meaning.specs.Codings.{slot_naming, term_coding}

-- A place of the head, or a term of the question, as a subgoal of one term. Its relation is no rule's: relations are numbered from 0, and there are at most 32.
abbrev pub head_relation : ℕ
head_relation = 255

abbrev pub alone : Term ℕ → Subgoal (Term ℕ)
alone t = record { relation = head_relation; terms = t ∷ [] }

abbrev pub placed : Rule ℕ → List (Subgoal (Term ℕ))
placed v = map alone v.head ++ v.body

abbrev pub onto : List (Term ℕ) → Rule ℕ → List (Subgoal (Term ℕ))
onto ts q = map alone ts ++ q.body

-- one use, and every target in a row that is in use
abbrev pub row_task : Rule ℕ → Rule ℕ → List (Term ℕ) → Task
row_task v q ts = task slot_naming term_coding (placed v) (replicate (length (placed v)) 0) (onto ts q) (replicate (length (onto ts q)) 0)

-- The question's terms, "Variables sort before constants, each by number", each once.
pub record TermsOf (q : Rule ℕ) (ts : List (Term ℕ)) : Type 0 where
  pub all : Enumerates (λ t. TermIn t q.body) TermBefore ts
  -- 12 subgoals of at most 8 terms
  pub few : length ts ≤ most_arity * question_most

-- The task is that of a sound summary v and a sound question q, over the terms of the question's body in ascending order, each once; the head has h places.
pub record TaskOf (v q : Rule ℕ) (ts : List (Term ℕ)) (p : Task) (h : ℕ) : Type 0 where
  pub codes : p ≡ row_task v q ts
  pub long : length v.head ≡ h
  pub terms : TermsOf q ts
  pub arities : List ℕ
  pub relations : Arities arities
  pub summary : RuleWithin arities summary_most v
  pub safe : Safe v
  pub plain : DistinctVariables v.head
  pub question : RuleWithin arities question_most q
