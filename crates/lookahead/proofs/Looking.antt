-- What is seen step by step: where a use ends, which rows have a target for a subgoal, which slots it has, how many each row serves.
use mathlib.Core.Bool.{true, false, false≢true}
use mathlib.Core.Path.{◌≡◌, refl, ap, sym, subst, ◌∙◌}
use mathlib.Core.Logic.{◌⊎◌, inl, inr, ⊎_elim}
use mathlib.Core.List.{List}
use mir.Val.{bool_byte}
use Prim.Native.Nat.{ℕ, zero, suc, ◌+◌, ◌/◌, ◌%◌, ◌^◌, ◌<◌, ◌≤◌}
use native.Mathlib.Omega.{arith}
use native.Mathlib.Decide.{ℕ_discrete, dec_lt}
use lib.ListN.{length, get_or, set, replicate, length-set}
use lib.Seq.{get_or-set_same, get_or-set_other}
use lib.Dec.{eqb}
use Rattle.bits.specs.Sets.{Has, has, with}
use Rattle.bits.proofs.Laws.{has-true, has-none, with-new, with-old, with_cases, exactly-yes, exactly-no}
use Rattle.task.specs.Task.{Task, targets, source_relation, target_relation, source_term, target_term, width_of, row_of}
use Rattle.task.specs.Terms.{noting}
use Rattle.task.proofs.Slots.{noting-new, noting-old, noting-cases}
use Rattle.lookahead.specs.Outlook.{UseEnd, MayBecome, SuitsTarget, HasTarget, Offered, Offers, SlotsOf, member_of, Wanting}
use Rattle.lookahead.specs.declared.Wants.{Wants}

-- no use ends from at up to i
pub record UseGoesOn (lasts : List ℕ) (at i : ℕ) : Type 0 where
  pub from : at ≤ i
  pub on : (j : ℕ) → at ≤ j → j < i → get_or lasts j 0 ≡ 0

module _ (lasts : List ℕ) (at : ℕ) where
  pub going_start : UseGoesOn lasts at at
  going_start = record { from = omega arith; on = λ j h k. absurd (omega arith) }

  pub going_more : (i : ℕ) → UseGoesOn lasts at i → get_or lasts i 0 ≡ 0 → UseGoesOn lasts at (i + 1)
  going_more i g e = record { from = omega (arith, g.from); on = λ j h k. elim (ℕ_discrete j i) [ yes q ↦ rw q e | no q ↦ g.on j h (omega arith) ] }

  pub going-ends : (i : ℕ) → i < length lasts → UseGoesOn lasts at i → (get_or lasts i 0 ≡ 0 → ⊥) → UseEnd lasts at (i + 1)
  going-ends i h g n =
      record {
        exactly = λ j. (
          λ r. record { from = r.0; there = omega (arith, r.1); one = λ k l m. g.on k l (omega (arith, r.1)) },
          λ u. (u.from, elim (dec_lt j (i + 1)) [ yes l ↦ l | no l ↦ absurd (n (u.one i g.from (omega arith))) ]),
        );
      }

  pub going-whole : (i : ℕ) → length lasts ≤ i → UseGoesOn lasts at i → UseEnd lasts at (length lasts)
  going-whole i h g = record { exactly = λ j. (λ r. record { from = r.0; there = r.1; one = λ k l m. g.on k l (omega (arith, r.1)) }, λ u. (u.from, u.there)) }

-- the first n terms of the source subgoal i may become those of the target k
pub record Agreeable (p : Task) (b : List ℕ) (i k n : ℕ) : Type 0 where
  pub terms : (a : ℕ) → a < n → MayBecome b (source_term p i a) (target_term p k a)

module _ (p : Task) (b : List ℕ) (i k : ℕ) where
  pub agreeable-start : Agreeable p b i k 0
  agreeable-start = record { terms = λ a h. absurd (omega arith) }

  pub agreeable-more : (n : ℕ) → Agreeable p b i k n → MayBecome b (source_term p i n) (target_term p k n) → Agreeable p b i k (n + 1)
  agreeable-more n g m = record { terms = λ a h. elim (ℕ_discrete a n) [ yes e ↦ rw e m | no e ↦ g.terms a (omega arith) ] }

module _ (p : Task) (b : List ℕ) (allowed i k : ℕ) where
  pub offered-not : (Has allowed (row_of p k) → SuitsTarget p b i k → ⊥) → Offered p b allowed i k false
  offered-not f = record { exactly = exactly-no (λ c. f c.0 c.1) }

  pub offered-all : has allowed (row_of p k) ≡ true → target_relation p k ≡ source_relation p i → (n : ℕ) → width_of p i ≤ n → Agreeable p b i k n → Offered p b allowed i k true
  offered-all e r n h g = record { exactly = exactly-yes (has-true allowed (row_of p k) e, record { relation = r; terms = λ a j. g.terms a (omega arith) }) }

-- the rows, of those before k, with a target for the source subgoal i
pub record Offering (p : Task) (b : List ℕ) (allowed i k rows : ℕ) : Type 0 where
  pub only : (x : ℕ) → Has rows x → Has allowed x × HasTarget p b i x
  pub each : (j : ℕ) → j < k → Has allowed (row_of p j) → SuitsTarget p b i j → Has rows (row_of p j)

module _ (p : Task) (b : List ℕ) (allowed i : ℕ) where
  pub offering-start : Offering p b allowed i 0 0
  offering-start = record { only = λ x h. absurd (has-none x h); each = λ j h. absurd (omega arith) }

  pub offering-none : (k rows : ℕ) → Offering p b allowed i k rows → Offered p b allowed i k false → Offering p b allowed i (k + 1) rows
  offering-none k rows o f =
      record {
        only = o.only;
        each = λ j h m s. elim (ℕ_discrete j k) [ yes e ↦ absurd (false≢true (f.exactly.1 (rw e at m, rw e at s))) | no e ↦ o.each j (omega arith) m s ];
      }

  module _ (k rows : ℕ) (h : k < targets p) (o : Offering p b allowed i k rows) (f : Offered p b allowed i k true) where
    here : Has allowed (row_of p k) × HasTarget p b i (row_of p k)
    here = ((f.exactly.0 refl).0, record { k = k; within = h; row = refl; fits = (f.exactly.0 refl).1 })

    both : (x : ℕ) → Has (with rows (row_of p k)) x → Has allowed x × HasTarget p b i x
    both x m = ⊎_elim (o.only x) (λ e. rw e here) (with_cases rows (row_of p k) x m)

    pub offering-more : Offering p b allowed i (k + 1) (with rows (row_of p k))
    offering-more =
        record {
          only = both;
          each = λ j l m s. elim (ℕ_discrete j k) [ yes e ↦ rw e (with-new rows (row_of p k)) | no e ↦ with-old rows (row_of p k) (row_of p j) (o.each j (omega arith) m s) ];
        }

    -- a row in use is among them: no others are looked for
    pub offers-used : (used : ℕ) → has used (row_of p k) ≡ true → Offers p b used allowed i (with rows (row_of p k))
    offers-used used e = record { only = both; each = λ g. absurd (g (row_of p k) (with-new rows (row_of p k)) (has-true used (row_of p k) e)) }

  pub offers-all : (used k rows : ℕ) → targets p ≤ k → Offering p b allowed i k rows → Offers p b used allowed i rows
  offers-all used k rows h o = record { only = o.only; each = λ f j l. o.each j (omega arith) }

-- the set with the slots among the first n terms of the source subgoal i
pub record Slotted (p : Task) (i first n slots : ℕ) : Type 0 where
  pub old : (x : ℕ) → Has first x → Has slots x
  pub new : (a : ℕ) → a < n → source_term p i a < 64 → Has slots (source_term p i a)
  pub only : (x : ℕ) → Has slots x → Has first x ⊎ ((a : ℕ) × (a < n) × (source_term p i a ≡ x) × (x < 64))

module _ (p : Task) (i first : ℕ) where
  pub slotted-start : Slotted p i first 0 first
  slotted-start = record { old = λ x h. h; new = λ a h. absurd (omega arith); only = λ x h. inl h }

  pub slotted-more : (n slots : ℕ) → Slotted p i first n slots → Slotted p i first (n + 1) (noting slots (source_term p i n))
  slotted-more n slots s =
      record {
        old = λ x h. noting-old slots (source_term p i n) x (s.old x h);
        new = λ a h l. elim (ℕ_discrete a n) [ yes e ↦ rw e (noting-new slots (source_term p i n) (rw e at l)) | no e ↦ noting-old slots (source_term p i n) (source_term p i a) (s.new a (omega arith) l) ];
        only = λ x h. ⊎_elim
            (λ o. ⊎_elim (λ f. inl f) (λ w. inr (w.0, omega (arith, w.1), w.2, w.3)) (s.only x o))
            (λ w. inr (n, omega arith, sym w.0, rw w.0 w.1))
            (noting-cases slots (source_term p i n) x h);
      }

  pub slotted-end : (n slots : ℕ) → width_of p i ≡ n → Slotted p i first n slots → SlotsOf p i first slots
  slotted-end n slots e s =
      record {
        exactly = λ x. (
          λ h. ⊎_elim (λ f. inl f) (λ w. inr (record { a = w.0; counts = omega (arith, w.1); is = w.2; slot = w.3 })) (s.only x h),
          ⊎_elim (s.old x) (λ o. subst (Has slots) o.is (s.new o.a (omega (arith, o.counts)) (rw o.is o.slot))),
        );
      }

-- the rows before x are counted
pub record Serving (old : List ℕ) (rows x : ℕ) (new : List ℕ) : Type 0 where
  pub long : length new ≡ 64
  pub past : (y : ℕ) → y < x → get_or new y 0 ≡ get_or old y 0 + member_of rows y
  pub rest : (y : ℕ) → x ≤ y → get_or new y 0 ≡ get_or old y 0

pub member-small : (rows x : ℕ) → member_of rows x ≤ 1
unfolding member_of
member-small rows x = omega arith

-- a test as a number
pub member-held : (rows x : ℕ) → bool_byte (has rows x) ≡ member_of rows x
unfolding member_of has
member-held rows x = go (rows / 2 ^ x % 2) (omega arith)
  where
    go : (n : ℕ) → n < 2 → bool_byte (eqb n 1) ≡ n
    go zero h = refl
    go (suc zero) h = refl
    go (suc (suc n)) h = absurd (omega arith)

module _ (old : List ℕ) (rows : ℕ) where
  pub serving-start : length old ≡ 64 → Serving old rows 0 old
  serving-start e = record { long = e; past = λ y h. absurd (omega arith); rest = λ y h. refl }

  pub serving-more : (x : ℕ) (new : List ℕ) → x < 64 → Serving old rows x new → Serving old rows (x + 1) (set new x (get_or new x 0 + member_of rows x))
  serving-more x new h s =
      record {
        long = simp length-set s.long;
        past = λ y l. elim (ℕ_discrete y x) [
          | yes e ↦ rw e (get_or-set_same new x (get_or new x 0 + member_of rows x) 0 (omega (arith, s.long)) ∙ ap (λ n. n + member_of rows x) (s.rest x (omega arith)))
          | no e ↦ get_or-set_other new x y (get_or new x 0 + member_of rows x) 0 e ∙ s.past y (omega arith)
        ];
        rest = λ y l. get_or-set_other new x y (get_or new x 0 + member_of rows x) 0 (λ e. omega arith) ∙ s.rest y (omega arith);
      }

pub serving-end : (w : Wants) (rows slots x : ℕ) (new : List ℕ) → 64 ≤ x → Serving w.served rows x new → Wanting w rows slots record { many = w.many + 1; served = new; slots = slots }
serving-end w rows slots x new h s = record { many = omega arith; long = s.long; served = λ y l. s.past y (omega arith); slots = refl }

abbrev pub no_wants : Wants
no_wants = record { many = 0; served = replicate 64 0; slots = 0 }
