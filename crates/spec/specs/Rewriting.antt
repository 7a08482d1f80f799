-- What rewriting a book of bytes promises, case by case.
use Rattle.std.specs.Prelude.{◌≡◌, List, ℕ, length, Result, Ok, Err}
use Rattle.spec.specs.Table.{RewriterRefusal}
use Rattle.spec.specs.Told.{told_of}
use Rattle.spec.specs.declared.Reason.{Reason}
use Rattle.spec.specs.declared.Lengths.{Lengths}
use Rattle.spec.specs.declared.Refused.{Refused}
use Rattle.spec.specs.Given.{at_front, answer_bytes, witness_bytes, Given}

-- "An accepted answer is written to the answer area as a rule"; "Both lengths are returned; bytes past them stay."
pub record Accepted (book answer answer' witness witness' : List ℕ) (n m : ℕ) : Type 0 where
  pub given : Given book (length answer) (length witness)
  pub answer_is : answer' ≡ at_front (answer_bytes given.value.question given.result) answer
  pub witness_is : witness' ≡ at_front (witness_bytes given.result) witness
  pub answer_long : n ≡ length (answer_bytes given.value.question given.result)
  pub witness_long : m ≡ length (witness_bytes given.result)

module _ (book answer answer' witness witness' : List ℕ) where
  -- "A refusal returns number and place; no lent byte or record changes."
  pub record TurnedDown (r : Reason) : Type 0 where
    pub refused : RewriterRefusal book (length answer) (length witness) r
    pub answer_stays : answer' ≡ answer
    pub witness_stays : witness' ≡ witness

  abbrev pub Rewriting : Result Lengths Refused → Type 0
  Rewriting (Ok l) = Accepted book answer answer' witness witness' l.answer l.witness
  Rewriting (Err e) = TurnedDown (told_of e)
