-- The uses of a list of rows as codes, between the steps: as targets of the way there.
use Rattle.std.specs.Prelude.{List, ℕ}
use Rattle.spec.specs.Words.{Term, Subgoal}
use Rattle.spec.specs.Book.{Book}
use Rattle.book_codes.specs.UsesLent.{InnerUsesOf, InnerUses}
use Rattle.witness.specs.ThereTold.{Serves, ThereOf}

module _ (book target own inner : List ℕ) where
  pub record ThereNeeds : Type 0 where
    pub onto : InnerUses book target own inner
    pub serves : Serves onto.value onto.list

  pub record ThereOntoSays (before after : List ℕ) (n : ℕ) : Type 0 where
    pub is : (b : Book) (l : List (Subgoal (Term ℕ))) → InnerUsesOf book target own inner b l → Serves b l → ThereOf b l before after n
