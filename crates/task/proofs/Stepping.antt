-- One source subgoal put on its target: what each way out of that says.
use mathlib.Core.Bool.{true, false, true≢false, false≢true}
use mathlib.Core.Path.{◌≡◌, sym, ◌∙◌}
use mathlib.Core.List.{List}
use Prim.Native.Nat.{ℕ, ◌+◌, ◌<◌, ◌≤◌}
use native.Mathlib.Omega.{arith}
use lib.ListN.{length, set}
use Rattle.task.specs.Task.{Task, targets, target_relation, source_relation, source_term, target_term, width_of, last_of, Agrees, Extends}
use Rattle.task.specs.Terms.{stood, noting, Opened}
use Rattle.task.specs.Leads.{Leads}
use Rattle.task.proofs.Slots.{stood-value}
use Rattle.task.proofs.Guess.{Guess, guess-known, guess-start, guess-same, guess-new, guess-full}
use Rattle.task.proofs.Onward.{after, over}

-- the bindings after the first a terms; which slots are new need not be told, since nothing is tried again
pub record Guessed (p : Task) (b : List ℕ) (i k a : ℕ) (g : List ℕ) : Type 0 where
  pub new : ℕ
  pub guess : Guess p b i k a g new

module _ (p : Task) (b : List ℕ) (i k : ℕ) where
  pub guessed-start : length b ≡ 64 → Guessed p b i k 0 b
  guessed-start e = record { new = 0; guess = guess-start p b i k e }

  module _ (a : ℕ) (g : List ℕ) (c : Guessed p b i k a g) where
    pub guessed-same : (stood g (source_term p i a) ≡ 0 → ⊥) → stood g (source_term p i a) ≡ target_term p k a → Guessed p b i k (a + 1) g
    guessed-same n f = record { new = c.new; guess = guess-same p b i k a g c.new c.guess n f }

    pub guessed-new : stood g (source_term p i a) ≡ 0 → (target_term p k a ≡ 0 → ⊥) → Guessed p b i k (a + 1) (set g (source_term p i a) (target_term p k a))
    guessed-new f s = record { new = noting c.new (source_term p i a); guess = guess-new p b i k a g c.new c.guess f s }

  fails : (b' : List ℕ) → (k < targets p → (v : ℕ → ℕ) → Extends b v → Agrees p v i k → ⊥) → Leads p b i k false b'
  fails b' f = record { passed = λ e. absurd (false≢true e); never = λ e. f }

  -- there is no such target
  pub leads-beyond : {h : List ℕ} → targets p ≤ k → Leads p b i k false h
  leads-beyond {h} o = fails h (λ l. absurd (omega arith))

  pub leads-relation : {h : List ℕ} → (target_relation p k ≡ source_relation p i → ⊥) → Leads p b i k false h
  leads-relation {h} f = fails h (λ l v e a. f a.relation)

  -- a term that stands for another code than the target's
  pub leads-unlike : (a : ℕ) (g h : List ℕ) → Guessed p b i k a g → a < width_of p i → (stood g (source_term p i a) ≡ 0 → ⊥) → (stood g (source_term p i a) ≡ target_term p k a → ⊥) → Leads p b i k false h
  leads-unlike a g h c o n f = fails h (λ l v e y. f (sym (stood-value g v (source_term p i a) (guess-known p b i k a g c.new c.guess v (source_term p i a) (λ j z. y.terms j (omega arith)) (e (source_term p i a))) n) ∙ y.terms a o))

  -- every term is put on the target's
  pub leads-on : (a : ℕ) (g h : List ℕ) → Guessed p b i k a g → a ≤ width_of p i → width_of p i ≤ a → k < targets p → target_relation p k ≡ source_relation p i → Opened (last_of p i) g h → Leads p b i k true h
  leads-on a g h c y z l r o =
      let w = guess-full p b i k a g c.new (width_of p i) y z c.guess in
      record {
        passed = λ e. record { within = l; long = o.long; after = after p i b k g h c.new w o; over = over p i b k g h c.new w o r };
        never = λ e. absurd (true≢false e);
      }
