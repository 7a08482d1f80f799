-- Every book of bytes is given an answer or refused; 9 is decided by the list of all rows.
use mathlib.Core.Logic.{◌⊎◌, inl, inr, ⊎_elim, ◌↔◌}
use mathlib.Core.List.{List}
use Prim.Native.Nat.{ℕ, ◌<◌}
use native.Mathlib.Omega.{arith}
use native.Mathlib.Decide.{dec_lt}
use lib.ListN.{length}
use Rattle.spec.specs.Words.{Term, Subgoal, Rule}
use Rattle.spec.specs.Summaries.{Summaries}
use Rattle.spec.specs.Answer.{Rewrites}
use Rattle.spec.specs.Book.{Book, admitted_of}
use Rattle.spec.specs.Numbers.{Bytes}
use Rattle.spec.specs.BookLayout.{SoundBook}
use Rattle.spec.specs.declared.Reason.{Reason}
use Rattle.spec.specs.Refusals.{of_book}
use Rattle.spec.specs.Table.{most_rows, answer_room, witness_room, Fault1, Fault9, RewriterRefusal, one, read, nine, ten}
use Rattle.spec.specs.Given.{Given}
use Rattle.spec.proofs.Decided.Sound.{AllSafe}
use Rattle.spec.proofs.Decided.Answered.{right-exists}
use Rattle.spec.proofs.Decided.Rows.{all_rows, all_rows-sound, all_rows-ascending}
use Rattle.spec.proofs.Decided.RowCount.{rows-within}
use Rattle.spec.proofs.Bytes.Refused.{sound-or-refused}
use Rattle.spec.proofs.Bytes.Refused as reading
use Rattle.containment.proofs.Normal.{any-decided}
use Rattle.outcomes.proofs.Grants.{value-safe}

-- "more than 64 summary rows": the list of all rows has more
pub fault-9 : (s : Summaries) (q : Rule ℕ) → AllSafe s → Fault9 s q ↔ (most_rows < length (all_rows s q))
fault-9 s q safe = (
  λ f. omega (arith, f.many, rows-within s q safe f.rows f.each f.ascending),
  λ h. record { rows = all_rows s q; each = all_rows-sound s q; ascending = all_rows-ascending s q; many = h },
)

module _ (book : List ℕ) (bytes : Bytes book) (answer witness : ℕ) where
  abbrev pub GivenOrRefused : Type 0
  GivenOrRefused = Given book answer witness ⊎ ((r : Reason) × RewriterRefusal book answer witness r)

  sound-told : (Fault1 answer witness → ⊥) → (b : Book) → SoundBook book b → GivenOrRefused
  sound-told room b s = go (dec_lt most_rows (length (all_rows (admitted_of b) b.question))) (any-decided (admitted_of b) b.question safe)
    where
      safe : AllSafe (admitted_of b)
      safe = value-safe s.value

      few : (most_rows < length (all_rows (admitted_of b) b.question) → ⊥) → Fault9 (admitted_of b) b.question → ⊥
      few n f = n ((fault-9 (admitted_of b) b.question safe).0 f)

      go : Dec (most_rows < length (all_rows (admitted_of b) b.question)) → Dec ((l : List (Subgoal (Term ℕ))) × Rewrites (admitted_of b) b.question l) → GivenOrRefused
      go (yes many) d = inr (of_book 9, nine room b s ((fault-9 (admitted_of b) b.question safe).1 many))
      go (no n) (no never) = inr (of_book 10, ten room b s (few n) (λ l r. never (l, r)))
      go (no n) (yes w) = let r = right-exists (admitted_of b) b.question safe w.0 w.1 in inl record { room = room; value = b; sound = s; few = few n; result = r.0; right = r.1 }

  room-decided : Dec (Fault1 answer witness)
  room-decided = go (dec_lt answer answer_room) (dec_lt witness witness_room)
    where
      go : Dec (answer < answer_room) → Dec (witness < witness_room) → Dec (Fault1 answer witness)
      go (yes a) d = yes (inl a)
      go (no a) (yes w) = yes (inr w)
      go (no a) (no w) = no (⊎_elim a w)

  pub told : GivenOrRefused
  told = go room-decided (sound-or-refused book bytes)
    where
      go : Dec (Fault1 answer witness) → ((b : Book) × SoundBook book b) ⊎ reading.SomeRefusal book → GivenOrRefused
      go (yes f) d = inr (of_book 1, one f)
      go (no n) (inl s) = sound-told n s.0 s.1
      go (no n) (inr r) = inr (r.0, read n r.1)
