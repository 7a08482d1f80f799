-- It is decided of every book whether its bodies stand without gaps, and whether its relations are right; and what is wrong where not.
use mathlib.Core.Path.{◌≡◌}
use mathlib.Core.Logic.{◌⊎◌, inl, inr, ◌↔◌}
use mathlib.Core.List.{List}
use Prim.Native.Nat.{ℕ, ◌<◌, ◌≤◌}
use native.Mathlib.Omega.{arith}
use native.Mathlib.Decide.{ℕ_discrete, dec_lt}
use lib.ListN.{length}
use Rattle.spec.specs.Words.{◌∈◌}
use Rattle.spec.specs.BookLayout.{contents_end}
use Rattle.spec.specs.Contents.{count, entries_in, offset_at, stamp_at, part_at, begin_at, NoGaps, RightRelations}
use Rattle.spec.specs.Refusals.{Fault4, Fault5}
use Rattle.spec.proofs.Lists.Finite.{decided, contrary, below_or_not, each-or-not}

abbrev pub InRange : ℕ → ℕ → ℕ → Type 0
InRange low high a = (low ≤ a) × (a ≤ high)

-- "out of range"
abbrev pub OutOf : ℕ → ℕ → ℕ → Type 0
OutOf low high a = (a < low) ⊎ (high < a)

module _ (low high a : ℕ) where
  range-or-out : InRange low high a ⊎ OutOf low high a
  range-or-out = go (dec_lt a low) (dec_lt high a)
    where
      go : Dec (a < low) → Dec (high < a) → InRange low high a ⊎ OutOf low high a
      go (yes l) h = inr (inl l)
      go (no f) (yes h) = inr (inr h)
      go (no f) (no g) = inl (omega arith)

  out-not : OutOf low high a → InRange low high a → ⊥
  out-not (inl l) x = omega arith
  out-not (inr h) x = omega arith

module _ (book : List ℕ) where
  -- "book ends inside the contents, or offsets and lengths break the rule of no gaps"
  abbrev Breaks : Type 0
  Breaks = (i : ℕ) × (i < entries_in book) × (offset_at book i ≡ begin_at book i → ⊥)

  abbrev pub Gap : Type 0
  Gap = (length book < contents_end (count book)) ⊎ (Breaks ⊎ (begin_at book (entries_in book) ≡ length book → ⊥))

  no-gaps-or-gap : NoGaps book ⊎ Gap
  no-gaps-or-gap =
      go (dec_lt (length book) (contents_end (count book))) (below_or_not (λ i. offset_at book i ≡ begin_at book i) (λ i. ℕ_discrete (offset_at book i) (begin_at book i)) (entries_in book)) (ℕ_discrete (begin_at book (entries_in book)) (length book))
    where
      go : Dec (length book < contents_end (count book)) → ((i : ℕ) → i < entries_in book → offset_at book i ≡ begin_at book i) ⊎ Breaks → Dec (begin_at book (entries_in book) ≡ length book) → NoGaps book ⊎ Gap
      go (yes l) b e = inr (inl l)
      go (no f) (inr x) e = inr (inr (inl x))
      go (no f) (inl b) (no e) = inr (inr (inr e))
      go (no f) (inl b) (yes e) = inl record { room = omega arith; begins = b; ends = e }

  gap-not : Gap → NoGaps book → ⊥
  gap-not (inl l) w = let room = w.room in omega arith
  gap-not (inr (inl x)) w = x.2 (w.begins x.0 x.1)
  gap-not (inr (inr e)) w = e w.ends

  pub no-gaps-decided : Dec (NoGaps book)
  no-gaps-decided = decided no-gaps-or-gap gap-not

  pub fault-4 : Fault4 book ↔ Gap
  fault-4 = contrary no-gaps-or-gap gap-not

  -- "relations: stamp not 0, length or an arity out of range"
  abbrev pub WrongRelations : Type 0
  WrongRelations = (stamp_at book 0 ≡ 0 → ⊥) ⊎ (OutOf 1 32 (length (part_at book 0)) ⊎ ((a : ℕ) × (a ∈ part_at book 0) × OutOf 1 8 a))

  relations-or-wrong : RightRelations book ⊎ WrongRelations
  relations-or-wrong =
      go (ℕ_discrete (stamp_at book 0) 0) (range-or-out 1 32 (length (part_at book 0))) (each-or-not (InRange 1 8) (λ a. decided (range-or-out 1 8 a) (out-not 1 8 a)) (part_at book 0))
    where
      go : Dec (stamp_at book 0 ≡ 0) → InRange 1 32 (length (part_at book 0)) ⊎ OutOf 1 32 (length (part_at book 0)) → ((a : ℕ) → a ∈ part_at book 0 → InRange 1 8 a) ⊎ ((a : ℕ) × (a ∈ part_at book 0) × (InRange 1 8 a → ⊥)) → RightRelations book ⊎ WrongRelations
      go (no s) l a = inr (inl s)
      go (yes s) (inr l) a = inr (inr (inl l))
      go (yes s) (inl l) (inr x) = inr (inr (inr (x.0, x.1, (contrary (range-or-out 1 8 x.0) (out-not 1 8 x.0)).0 x.2)))
      go (yes s) (inl l) (inl a) = inl record { stamp = s; arities = record { some = l.0; few = l.1; range = a } }

  wrong-not : WrongRelations → RightRelations book → ⊥
  wrong-not (inl s) r = s r.stamp
  wrong-not (inr (inl l)) r = out-not 1 32 (length (part_at book 0)) l (r.arities.some, r.arities.few)
  wrong-not (inr (inr x)) r = out-not 1 8 x.0 x.2 (r.arities.range x.0 x.1)

  pub relations-decided : Dec (RightRelations book)
  relations-decided = decided relations-or-wrong wrong-not

  pub fault-5 : Fault5 book ↔ WrongRelations
  fault-5 = contrary relations-or-wrong wrong-not
