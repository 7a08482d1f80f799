-- The uses of a list of rows as codes: as targets of the way there, and as sources of the way back.
use Rattle.std.specs.Prelude.{◌≡◌, List, ℕ}
use Rattle.spec.specs.Words.{Term, Subgoal}
use Rattle.spec.specs.Summaries.{uses, joined}
use Rattle.spec.specs.Book.{Book, admitted_of}
use Rattle.choice_theory.specs.Placed.{owners}
use Rattle.codes.specs.Code.{own_code, codes_of, own_slot, widths_of}
use Rattle.search_meaning.specs.Uses.{ends_of}
use Rattle.book_codes.specs.Insides.{insides}
use Rattle.book_codes.specs.FewRows.{ListOf}

module _ (book target own : List ℕ) where
  -- as targets: codes, and the use of each
  pub record TargetUsesOf (b : Book) (l : List (Subgoal (Term ℕ))) : Type 0 where
    pub list : ListOf book b l
    pub codes : target ≡ codes_of own_code (joined (uses (admitted_of b) 0 l))
    pub owns : own ≡ owners 0 (uses (admitted_of b) 0 l)

module _ (book target own inner : List ℕ) where
  -- .. and the place of each in its use
  pub record InnerUsesOf (b : Book) (l : List (Subgoal (Term ℕ))) : Type 0 where
    pub targets : TargetUsesOf book target own b l
    pub inners : inner ≡ insides (uses (admitted_of b) 0 l)

  pub record InnerUses : Type 0 where
    pub value : Book
    pub list : List (Subgoal (Term ℕ))
    pub is : InnerUsesOf value list

module _ (book source widths lasts : List ℕ) where
  -- as sources: codes, how many terms each has, and whether it ends its use
  pub record SourceUsesOf (b : Book) (l : List (Subgoal (Term ℕ))) : Type 0 where
    pub list : ListOf book b l
    pub codes : source ≡ codes_of own_slot (joined (uses (admitted_of b) 0 l))
    pub wide : widths ≡ widths_of (joined (uses (admitted_of b) 0 l))
    pub ends : lasts ≡ ends_of (uses (admitted_of b) 0 l)

  pub record SourceUses : Type 0 where
    pub value : Book
    pub list : List (Subgoal (Term ℕ))
    pub is : SourceUsesOf value list
