-- What the checker says yes to and what it does not: books, rewritings and witnesses as bytes, one table, settled by computation.
use mathlib.Core.Path.{◌≡◌, refl}
use mathlib.Core.Bool.{Bool, true, false, ◌&&◌, false≢true}
use mathlib.Core.List.{List, [], ◌∷◌, ◌++◌, map}
use Prim.Native.Nat.{ℕ}
use lib.ListN.{length, take, replicate}
use lib.Dec.{T}
use Rattle.spec.specs.Words.{◌∈◌}
use Rattle.spec.specs.Summaries.{joined}
use Rattle.spec.specs.Refresh.{admitted}
use Rattle.spec.specs.Book.{Book}
use Rattle.spec.specs.Numbers.{number_at}
use Rattle.spec.specs.BookLayout.{entries, contents_end, book_bytes}
use Rattle.spec.specs.Contents.{count, entries_in, offset_at, length_at, stamp_at, part_at}
use Rattle.spec.specs.Refusals.{longest, of_book, Refusal}
use Rattle.spec.specs.Truth.{Truth, Checks}
use Rattle.spec.proofs.Lists.Tests.{passes, fails, and_parts, every, every-sound}
use Rattle.spec.proofs.Lists.Gathered.{same_map}
use Rattle.spec.proofs.Bytes.Refused.{sound-unrefused}
use Rattle.spec.proofs.Bytes.SoundTest.{sound_book, book-sound}
use Rattle.spec.proofs.Bytes.RefusalTest.{refusal-says}
use Rattle.spec.proofs.Examples.RefusalCases.{are_bytes, bytes-sound}
use Rattle.spec.proofs.Examples.TruthTest.{is_true, true-sound, true-complete}
use Rattle.spec.proofs.Examples.TruthBooks.{star, star_bytes, zeros, zeros_bytes}

pub record TruthCase : Type 0 where
  pub value : Book
  pub book : List ℕ
  pub rewriting : List ℕ
  pub witness : List ℕ
  pub answer : Bool

-- the bytes of a variable and of a constant; of a subgoal over a summary; of a rewriting
abbrev variable : ℕ → List ℕ
variable n = 0 ∷ n ∷ 0 ∷ 0 ∷ 0 ∷ []

abbrev constant : ℕ → List ℕ
constant n = 1 ∷ n ∷ 0 ∷ 0 ∷ 0 ∷ []

abbrev ruled : List ℕ → List (List ℕ) → List ℕ
ruled head goals = 1 ∷ length goals ∷ head ++ joined goals

abbrev case : List ℕ → List ℕ → Bool → TruthCase
case rewriting witness answer = record { value = star 0; book = star_bytes 0; rewriting = rewriting; witness = witness; answer = answer }

abbrev admitted_case : List ℕ → List ℕ → Bool → TruthCase
admitted_case rewriting witness answer = record { value = star 1; book = star_bytes 1; rewriting = rewriting; witness = witness; answer = answer }

abbrev zeros_case : List ℕ → List ℕ → Bool → TruthCase
zeros_case rewriting witness answer = record { value = zeros; book = zeros_bytes; rewriting = rewriting; witness = witness; answer = answer }

-- (X0) from 1(X0), and so often
abbrev shortest : List ℕ
shortest = ruled (variable 0) ((1 ∷ variable 0) ∷ [])

abbrev often : ℕ → List ℕ
often many = ruled (variable 0) (replicate many (1 ∷ variable 0))

unfoldable pub truth_cases : List TruthCase
truth_cases =
    case shortest (1 ∷ 1 ∷ 1 ∷ 1 ∷ 1 ∷ []) true
    -- not shortest, and 1(X7) is no summary row
    ∷ case (ruled (variable 0) ((1 ∷ variable 0) ∷ (1 ∷ variable 7) ∷ [])) (1 ∷ 1 ∷ 1 ∷ 1 ∷ 1 ∷ 2 ∷ []) true
    -- not the first witness
    ∷ case (often 2) (2 ∷ 1 ∷ 1 ∷ 1 ∷ 2 ∷ 1 ∷ []) true
    -- twelve subgoals; thirteen; none
    ∷ case (often 12) (1 ∷ 1 ∷ 1 ∷ 1 ∷ replicate 12 1) true
    ∷ case (often 13) (1 ∷ 1 ∷ 1 ∷ 1 ∷ replicate 13 1) false
    ∷ case (often 0) [] false
    ∷ case (often 0) (1 ∷ 1 ∷ 1 ∷ 1 ∷ []) false
    -- another head, of another variable, a constant, none
    ∷ case (ruled (variable 1) ((1 ∷ variable 1) ∷ [])) (1 ∷ 1 ∷ 1 ∷ 1 ∷ 1 ∷ []) false
    ∷ case (ruled (constant 0) ((1 ∷ variable 0) ∷ [])) (1 ∷ 1 ∷ 1 ∷ 1 ∷ 1 ∷ []) false
    ∷ case (0 ∷ 1 ∷ 1 ∷ variable 0) (1 ∷ 1 ∷ 1 ∷ 1 ∷ 1 ∷ []) false
    -- a summary left out; the same where it is admitted
    ∷ case (ruled (variable 0) ((2 ∷ variable 0 ++ variable 1) ∷ [])) (1 ∷ 1 ∷ 1 ∷ 1 ∷ 1 ∷ []) false
    ∷ admitted_case (ruled (variable 0) ((2 ∷ variable 0 ++ variable 1) ∷ [])) (1 ∷ 1 ∷ 1 ∷ 1 ∷ 1 ∷ []) true
    -- beside one that is admitted, too: it would put nothing in place, and the witness need not speak of it
    ∷ case (ruled (variable 0) ((1 ∷ variable 0) ∷ (2 ∷ variable 0 ++ variable 1) ∷ [])) (1 ∷ 1 ∷ 1 ∷ 1 ∷ 1 ∷ []) false
    ∷ case (ruled (variable 0) ((1 ∷ variable 0) ∷ (2 ∷ variable 0 ++ variable 1) ∷ [])) (1 ∷ 1 ∷ 1 ∷ 1 ∷ 1 ∷ 1 ∷ []) false
    -- no summary's number; a term too many
    ∷ case (ruled (variable 0) ((0 ∷ variable 0) ∷ [])) (1 ∷ 1 ∷ 1 ∷ 1 ∷ 1 ∷ []) false
    ∷ case (ruled (variable 0) ((3 ∷ variable 0) ∷ [])) (1 ∷ 1 ∷ 1 ∷ 1 ∷ 1 ∷ []) false
    ∷ case (ruled (variable 0) ((1 ∷ variable 0 ++ variable 0) ∷ [])) (1 ∷ 1 ∷ 1 ∷ 1 ∷ 1 ∷ []) false
    -- "one whole rule by the layout": a byte over, a byte short, variable 32, tag 2
    ∷ case (shortest ++ (0 ∷ [])) (1 ∷ 1 ∷ 1 ∷ 1 ∷ 1 ∷ []) false
    ∷ case (take 12 shortest) (1 ∷ 1 ∷ 1 ∷ 1 ∷ 1 ∷ []) false
    ∷ case (ruled (variable 0) ((1 ∷ variable 0) ∷ (1 ∷ variable 31) ∷ [])) (1 ∷ 1 ∷ 1 ∷ 1 ∷ 1 ∷ 1 ∷ []) true
    ∷ case (ruled (variable 0) ((1 ∷ variable 0) ∷ (1 ∷ variable 32) ∷ [])) (1 ∷ 1 ∷ 1 ∷ 1 ∷ 1 ∷ 1 ∷ []) false
    ∷ case (ruled (variable 0) ((1 ∷ variable 0) ∷ (1 ∷ 2 ∷ 0 ∷ 0 ∷ 0 ∷ 0 ∷ []) ∷ [])) (1 ∷ 1 ∷ 1 ∷ 1 ∷ 1 ∷ 1 ∷ []) false
    -- "exactly the needed length"
    ∷ case shortest (1 ∷ 1 ∷ 1 ∷ 1 ∷ []) false
    ∷ case shortest (1 ∷ 1 ∷ 1 ∷ 1 ∷ 1 ∷ 1 ∷ []) false
    ∷ case shortest [] false
    -- ways there that are none: no such use, no such subgoal, no place 0, another variable for the head's
    ∷ case shortest (2 ∷ 1 ∷ 1 ∷ 1 ∷ 1 ∷ []) false
    ∷ case shortest (1 ∷ 1 ∷ 1 ∷ 2 ∷ 1 ∷ []) false
    ∷ case shortest (1 ∷ 0 ∷ 1 ∷ 1 ∷ 1 ∷ []) false
    ∷ case (ruled (variable 0) ((1 ∷ variable 0) ∷ (1 ∷ variable 7) ∷ [])) (1 ∷ 1 ∷ 2 ∷ 1 ∷ 1 ∷ 1 ∷ []) false
    -- ways back that are none: no place 0, none past the last, a constant that stands nowhere
    ∷ case shortest (1 ∷ 1 ∷ 1 ∷ 1 ∷ 0 ∷ []) false
    ∷ case shortest (1 ∷ 1 ∷ 1 ∷ 1 ∷ 3 ∷ []) false
    ∷ case (ruled (variable 0) ((1 ∷ variable 0) ∷ (1 ∷ constant 9) ∷ [])) (1 ∷ 1 ∷ 1 ∷ 1 ∷ 1 ∷ 1 ∷ []) false
    -- constant 0 and variable 0 are unlike
    ∷ zeros_case (ruled (variable 0) ((2 ∷ variable 0 ++ constant 0) ∷ [])) (1 ∷ 1 ∷ 1 ∷ []) true
    ∷ zeros_case (ruled (variable 0) ((2 ∷ variable 0 ++ variable 0) ∷ [])) (1 ∷ 1 ∷ 1 ∷ []) false
    ∷ zeros_case (ruled (variable 0) ((2 ∷ variable 0 ++ variable 1) ∷ [])) (1 ∷ 1 ∷ 1 ∷ []) false
    ∷ zeros_case shortest (1 ∷ 1 ∷ 1 ∷ []) false
    ∷ []

abbrev computed : TruthCase → Bool
computed c = is_true c.value c.rewriting c.witness

told : map computed truth_cases ≡ map (λ c. c.answer) truth_cases
unfolding truth_cases admitted
told = refl

abbrev as_written : TruthCase → Bool
as_written c = sound_book c.book c.value && are_bytes c.rewriting

written : T (every as_written truth_cases)
unfolding truth_cases book_bytes contents_end entries
written = tt

-- What the table says is what the checker has to say.
pub truth-meant : (c : TruthCase) → c ∈ truth_cases → Checks c.book c.rewriting c.witness c.answer
truth-meant c m = go c.answer (same_map computed (λ c. c.answer) truth_cases told c m)
  where
    w : T (sound_book c.book c.value) × T (are_bytes c.rewriting)
    w = and_parts (sound_book c.book c.value) (are_bytes c.rewriting) (every-sound as_written truth_cases written c m)

    go : (b : Bool) → computed c ≡ b → Checks c.book c.rewriting c.witness b
    go true e = record { exactly = (λ same. true-sound c.value (book-sound c.book c.value w.0) c.rewriting c.witness (bytes-sound c.rewriting w.1) (passes e), λ t. refl) }
    go false e = record { exactly = (λ same. absurd (false≢true same), λ t. absurd (fails e (true-complete c.value (book-sound c.book c.value w.0) c.rewriting c.witness t))) }

-- "the book loads through 8": not one that is cut by a byte
cut-book : Truth (take 120 (star_bytes 0)) shortest (1 ∷ 1 ∷ 1 ∷ 1 ∷ 1 ∷ []) → ⊥
unfolding longest count number_at entries_in entries contents_end offset_at length_at stamp_at part_at
cut-book t = let r : Refusal (take 120 (star_bytes 0)) (of_book 4) = refusal-says (take 120 (star_bytes 0)) (bytes-sound (take 120 (star_bytes 0)) tt) in sound-unrefused t.sound r
