-- So many of a kind, read one after the other.
use mathlib.Core.Path.{◌≡◌, refl, sym, ap, ap₂, ◌∙◌, subst}
use mathlib.Core.List.{List, [], ◌∷◌}
use Prim.Native.Nat.{ℕ, zero, suc, ◌+◌, ◌-◌, ◌<◌, ◌≤◌}
use native.Mathlib.Omega.{arith}
use lib.ListN.{length, drop}
use Rattle.std.specs.Prelude.{Result, Ok, Err, MatchResult}
use Rattle.spec.specs.Words.{Term, Subgoal}
use Rattle.spec.proofs.Bytes.RuleReading.{Read, got, bad, and_then, read_many, read_term, read_subgoal}
use Rattle.spec.proofs.Bytes.RuleReading as reading
use Rattle.spec.proofs.Bytes.Tails.{Tails, end-place, tails-term, tails-subgoal}
use Rattle.rules.specs.declared.subgoals.Fault.{Fault}
use Rattle.rules.specs.declared.subgoals.Front.{Front}
use Rattle.rules.specs.declared.subgoals.Marks.{Marks}
use Rattle.rules.specs.Marked.{stepped, fault_of, mark, marks, of_goal, goal_marks, Repeated}
use Rattle.spec.proofs.Lists.Parts.{place-left}

-- a step that goes on, or that ends the reading, taken apart
pub record Went {A : Type 0} (noted : A → Marks) (n : ℕ) (z : Read A) (front : Front) : Type 0 where
  pub thing : A
  pub rest : List ℕ
  pub read : z ≡ got thing rest
  pub place : front.at ≡ n - length rest
  pub notes : front.notes ≡ noted thing

pub went : {A : Type 0} (noted : A → Marks) (n : ℕ) (z : Read A) (front : Front) → Ok front ≡ stepped noted n z → Went noted n z front
unfolding stepped
went noted n (got a rest) front e = record { thing = a; rest = rest; read = refl; place = cc; notes = cc }
went noted n (bad f) front e = cc

pub stopped : {A : Type 0} (noted : A → Marks) (n : ℕ) (z : Read A) (f : Fault) → Err f ≡ stepped noted n z → (g : reading.Fault) × (z ≡ bad g) × (f ≡ fault_of g)
unfolding stepped
stopped noted n (got a rest) f e = cc
stopped noted n (bad g) f e = (g, refl, cc)

-- the code's steps, one after the other
module _ (Steps : Front → Result Front Fault → Type 0) (k i : ℕ) (turn : i < k) (from : Front) (step : Result Front Fault) (stepped : Steps from step) where
  ahead : (r : Result Front Fault) → Repeated Steps (suc (k - (i + 1))) from r → Repeated Steps (k - i) from r
  ahead r w = let e : suc (k - (i + 1)) ≡ k - i = omega arith in subst (λ j. Repeated Steps j from r) e w

  pub run-stops : (f : Fault) → step ≡ Err f → Repeated Steps (k - i) from step
  run-stops f e = ahead step (step, stepped, subst (λ s. MatchResult s (λ next. Repeated Steps (k - (i + 1)) next step) (λ g. step ≡ Err g)) (sym e) e)

  pub run-goes : (next : Front) (r : Result Front Fault) → step ≡ Ok next → Repeated Steps (k - (i + 1)) next r → Repeated Steps (k - i) from r
  run-goes next r e w = ahead r (step, stepped, rw e w)

-- A kind of things that are read one after the other, with what is noted of one and of a list.
pub record Kind (A : Type 0) : Type 0 where
  pub one : List ℕ → Read A
  pub tails : Tails one
  pub note : Marks → A → Marks
  pub notes : Marks → List A → Marks
  pub none : (m : Marks) → notes m [] ≡ m
  pub more : (m : Marks) (a : A) (l : List A) → notes m (a ∷ l) ≡ notes (note m a) l

abbrev pub terms : Kind (Term ℕ)
terms = record { one = read_term; tails = tails-term; note = mark; notes = marks; none = λ m. refl; more = λ m a l. refl }

abbrev pub subgoals : List ℕ → Kind (Subgoal (Term ℕ))
subgoals arities = record { one = read_subgoal arities; tails = tails-subgoal arities; note = of_goal; notes = goal_marks; none = λ m. refl; more = λ m a l. refl }

module _ {A : Type 0} (kind : Kind A) (s : List ℕ) where
  -- what one step answers, and so many
  abbrev pub one : Front → Result Front Fault
  one front = stepped (kind.note front.notes) (length s) (kind.one (drop front.at s))

  abbrev pub many : ℕ → Front → Result Front Fault
  many k from = stepped (kind.notes from.notes) (length s) (read_many kind.one k (drop from.at s))

  -- what one more element does to a reading of the others
  grown : (m : Marks) (a : A) (n : ℕ) (z : Read (List A)) → stepped (kind.notes m) n (and_then z (λ l end. got (a ∷ l) end)) ≡ stepped (kind.notes (kind.note m a)) n z
  unfolding stepped
  grown m a n (got l rest) = ap (λ notes. Ok (record { at = n - length rest; notes = notes })) (kind.more m a l)
  grown m a n (bad f) = refl

  module _ (k : ℕ) (from : Front) where
    further : Read A → Read (List A)
    further z = and_then z (λ a rest. and_then (read_many kind.one k rest) (λ l end. got (a ∷ l) end))

    one-stops : (f : Fault) → Err f ≡ one from → Err f ≡ many (suc k) from
    unfolding stepped further
    one-stops f e =
        let w = stopped (kind.note from.notes) (length s) (kind.one (drop from.at s)) f e in
        ap Err w.2 ∙ sym (ap (λ z. stepped (kind.notes from.notes) (length s) (further z)) w.1)

    module _ (within : from.at ≤ length s) (next : Front) (e : Ok next ≡ one from) where
      w : Went (kind.note from.notes) (length s) (kind.one (drop from.at s)) next
      w = went (kind.note from.notes) (length s) (kind.one (drop from.at s)) next e

      one-within : next.at ≤ length s
      one-within = let q = w.place in omega arith

      rest-is : w.rest ≡ drop next.at s
      rest-is = end-place s w.rest from.at within (kind.tails (drop from.at s) w.thing w.rest w.read) ∙ ap (λ q. drop q s) (sym w.place)

      one-goes : many k next ≡ many (suc k) from
      unfolding further
      one-goes = sym
          (ap (λ z. stepped (kind.notes from.notes) (length s) (further z)) w.read
          ∙ grown from.notes w.thing (length s) (read_many kind.one k w.rest)
          ∙ ap₂ (λ x y. stepped (kind.notes x) (length s) (read_many kind.one k y)) (sym w.notes) rest-is)

  -- steps that answer so, one after the other
  pub many-is : (Steps : Front → Result Front Fault → Type 0) → ((front : Front) (r : Result Front Fault) → Steps front r → r ≡ one front)
      → (k : ℕ) (from : Front) (r : Result Front Fault) → from.at ≤ length s → Repeated Steps k from r → r ≡ many k from
  unfolding stepped
  many-is Steps exact zero from r within e =
      e ∙ ap₂ (λ at notes. Ok (record { at = at; notes = notes })) (sym (place-left s from.at within)) (sym (kind.none from.notes))
  many-is Steps exact (suc k) from r within found = by found.0 (exact from found.0 found.1) found.2 (many-is Steps exact k)
    where
      by : (step : Result Front Fault) → step ≡ one from → MatchResult step (λ next. Repeated Steps k next r) (λ f. r ≡ Err f)
          → ((next : Front) (r : Result Front Fault) → next.at ≤ length s → Repeated Steps k next r → r ≡ many k next) → r ≡ many (suc k) from
      by (Ok next) e m ih = ih next r (one-within k from within next e) m ∙ one-goes k from within next e
      by (Err f) e m ih = m ∙ one-stops k from f e
