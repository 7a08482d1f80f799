-- The refusal table: "Given exactly when", number by number, with its place.
use mathlib.Core.Path.{◌≡◌, refl}
use mathlib.Core.Logic.{◌↔◌}
use mathlib.Core.List.{List}
use Prim.Native.Nat.{ℕ}
use Rattle.spec.specs.Words.{Rule, Safe}
use Rattle.spec.specs.Contents.{NoGaps}
use Rattle.spec.specs.Refusals.{of_entry, Fault2, Fault3, Fault4, Fault5, Fault6, Fault7, Fault8, Reads, Reached, Refusal, two, three, four, five, six, seven, eight}

module _ (book : List ℕ) where
  -- "book below 2 or above 25,040 bytes | 0"
  pub refused-2 : (p : ℕ) → Refusal book (of_entry 2 p) ↔ ((p ≡ 0) × Fault2 book)
  refused-2 p = (there, λ h. rw h.0 (two h.1))
    where
      there : {q : ℕ} → Refusal book (of_entry 2 q) → (q ≡ 0) × Fault2 book
      there (two f) = (refl, f)

  -- "n above 64 | 0"
  pub refused-3 : (p : ℕ) → Refusal book (of_entry 3 p) ↔ ((p ≡ 0) × (Fault2 book → ⊥) × Fault3 book)
  refused-3 p = (there, λ h. rw h.0 (three h.1 h.2))
    where
      there : {q : ℕ} → Refusal book (of_entry 3 q) → (q ≡ 0) × (Fault2 book → ⊥) × Fault3 book
      there (three a f) = (refl, a, f)

  -- "book ends inside the contents, or offsets and lengths break the rule of no gaps | 0"
  pub refused-4 : (p : ℕ) → Refusal book (of_entry 4 p) ↔ ((p ≡ 0) × (Fault2 book → ⊥) × (Fault3 book → ⊥) × Fault4 book)
  refused-4 p = (there, λ h. rw h.0 (four h.1 h.2 h.3))
    where
      there : {q : ℕ} → Refusal book (of_entry 4 q) → (q ≡ 0) × (Fault2 book → ⊥) × (Fault3 book → ⊥) × Fault4 book
      there (four a b f) = (refl, a, b, f)

  -- "relations: stamp not 0, length or an arity out of range | 0"
  pub refused-5 : (p : ℕ) → Refusal book (of_entry 5 p) ↔ ((p ≡ 0) × (Fault2 book → ⊥) × (Fault3 book → ⊥) × NoGaps book × Fault5 book)
  refused-5 p = (there, λ h. rw h.0 (five h.1 h.2 h.3 h.4))
    where
      there : {q : ℕ} → Refusal book (of_entry 5 q) → (q ≡ 0) × (Fault2 book → ⊥) × (Fault3 book → ⊥) × NoGaps book × Fault5 book
      there (five a b c f) = (refl, a, b, c, f)

  -- "a rule breaks its layout: ends early, bytes over, a count, relation, tag or variable out of range | entry"
  pub refused-6 : (i : ℕ) → Refusal book (of_entry 6 i) ↔ (Reached book i × Fault6 book i)
  refused-6 i = (there, λ h. six h.0 h.1)
    where
      there : {j : ℕ} → Refusal book (of_entry 6 j) → Reached book j × Fault6 book j
      there (six r f) = (r, f)

  -- "a rule isn't safe | entry"
  pub refused-7 : (i : ℕ) → Refusal book (of_entry 7 i) ↔ (Reached book i × Fault7 book i)
  refused-7 i = (there, λ h. seven h.0 h.1)
    where
      there : {j : ℕ} → Refusal book (of_entry 7 j) → Reached book j × Fault7 book j
      there (seven r f) = (r, f)

  -- "a summary's head holds a constant or a variable twice | entry": of a rule that is safe, since 7 comes before 8
  pub refused-8 : (i : ℕ) → Refusal book (of_entry 8 i) ↔ (Reached book i × ((r : Rule ℕ) → Reads book i r → Safe r) × Fault8 book i)
  refused-8 i = (there, λ h. eight h.0 h.1 h.2)
    where
      there : {j : ℕ} → Refusal book (of_entry 8 j) → Reached book j × ((r : Rule ℕ) → Reads book j r → Safe r) × Fault8 book j
      there (eight r s f) = (r, s, f)
