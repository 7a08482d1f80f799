-- The refusal table's rows 1, 9 and 10: "Given exactly when", with their place.
use mathlib.Core.Path.{◌≡◌, refl}
use mathlib.Core.Logic.{◌↔◌}
use mathlib.Core.List.{List}
use Prim.Native.Nat.{ℕ}
use Rattle.spec.specs.Book.{Book, admitted_of}
use Rattle.spec.specs.BookLayout.{SoundBook}
use Rattle.spec.specs.Refusals.{of_entry}
use Rattle.spec.specs.Table.{Fault1, Fault9, Fault10, RewriterRefusal, one, nine, ten}

module _ (book : List ℕ) (answer witness : ℕ) where
  -- "answer area below 534 bytes, or witness area below 120 | 0"
  pub refused-1 : (p : ℕ) → RewriterRefusal book answer witness (of_entry 1 p) ↔ ((p ≡ 0) × Fault1 answer witness)
  refused-1 p = (there, λ h. rw h.0 (one h.1))
    where
      there : {q : ℕ} → RewriterRefusal book answer witness (of_entry 1 q) → (q ≡ 0) × Fault1 answer witness
      there (one f) = (refl, f)
      there {q = q} (Rattle.spec.specs.Table.read _ x4) = elim x4 [ ]

  -- "more than 64 summary rows | 0"
  pub refused-9 : (p : ℕ) → RewriterRefusal book answer witness (of_entry 9 p)
      ↔ ((p ≡ 0) × (Fault1 answer witness → ⊥) × ((b : Book) × SoundBook book b × Fault9 (admitted_of b) b.question))
  refused-9 p = (there, λ h. rw h.0 (nine h.1 h.2.0 h.2.1 h.2.2))
    where
      there : {q : ℕ} → RewriterRefusal book answer witness (of_entry 9 q) → (q ≡ 0) × (Fault1 answer witness → ⊥) × ((b : Book) × SoundBook book b × Fault9 (admitted_of b) b.question)
      there (nine room b s f) = (refl, room, (b, s, f))
      there {q = q} (Rattle.spec.specs.Table.read _ x4) = elim x4 [ ]

  -- "no equivalent rewriting | 0"
  pub refused-10 : (p : ℕ) → RewriterRefusal book answer witness (of_entry 10 p)
      ↔ ((p ≡ 0) × (Fault1 answer witness → ⊥) × ((b : Book) × SoundBook book b × (Fault9 (admitted_of b) b.question → ⊥) × Fault10 (admitted_of b) b.question))
  refused-10 p = (there, λ h. rw h.0 (ten h.1 h.2.0 h.2.1 h.2.2 h.2.3))
    where
      there : {q : ℕ} → RewriterRefusal book answer witness (of_entry 10 q)
          → (q ≡ 0) × (Fault1 answer witness → ⊥) × ((b : Book) × SoundBook book b × (Fault9 (admitted_of b) b.question → ⊥) × Fault10 (admitted_of b) b.question)
      there (ten room b s few never) = (refl, room, (b, s, few, never))
      there {q = q} (Rattle.spec.specs.Table.read _ x4) = elim x4 [ ]
