-- Rules that are safe and rules that are not, heads of distinct variables and others, a whole expansion, and which summaries are admitted.
use mathlib.Core.Path.{◌≡◌, refl}
use mathlib.Core.Bool.{Bool, true, false}
use mathlib.Core.Option.{Option, some, none}
use mathlib.Core.List.Memᴰ
use mathlib.Core.List.{List, [], ◌∷◌, map}
use Prim.Native.Nat.{ℕ}
use native.Mathlib.Omega.{arith}
use lib.Dec.{lit<}
use Rattle.spec.specs.Words.{◌∈◌, Term, var, con, Subgoal, Rule, Safe, DistinctVariables, Fits, AllFit}
use Rattle.spec.specs.Summaries.{Summaries, Own, old, fresh, expansion, Over}
use Rattle.spec.specs.Refresh.{Admitted, admitted}
use Rattle.spec.specs.Book.{admitted_of}
use Rattle.spec.proofs.Lists.Tests.{passes, fails}
use Rattle.spec.proofs.Decided.Equal.{eq_number}
use Rattle.spec.proofs.Lists.Gathered.{same_map}
use Rattle.spec.proofs.Decided.Safety.{safe, safe-sound, safe-complete}
use Rattle.spec.proofs.Examples.Written.{x0, x1, x2, rule, on, book_a}

-- "It is safe if every head variable stands in the body."
pub record SafeCase : Type 0 where
  pub tried : Rule ℕ
  pub expected : Bool

abbrev case : List (Term ℕ) → Bool → SafeCase
case head expected = record { tried = rule head (on 0 (x0 ∷ con 5 ∷ []) ∷ on 1 (x2 ∷ []) ∷ []); expected = expected }

-- heads over the body 0(X0,5), 1(X2)
unfoldable pub safe_cases : List SafeCase
safe_cases =
    case [] true
    ∷ case (x0 ∷ x2 ∷ []) true
    ∷ case (x2 ∷ x2 ∷ []) true
    -- constants need not stand there
    ∷ case (con 9 ∷ []) true
    ∷ case (x1 ∷ []) false
    -- every head variable, the last too
    ∷ case (x0 ∷ x2 ∷ x1 ∷ []) false
    -- constant 5 stands there, variable 5 does not
    ∷ case (var 5 ∷ []) false
    ∷ []

safe-told : map (λ c. safe eq_number c.tried) safe_cases ≡ map (λ c. c.expected) safe_cases
unfolding safe_cases
safe-told = refl

abbrev pub SafeMeant : Rule ℕ → Bool → Type 0
SafeMeant r true = Safe r
SafeMeant r false = Safe r → ⊥

pub safe-meant : (c : SafeCase) → c ∈ safe_cases → SafeMeant c.tried c.expected
safe-meant c m = go c.expected (same_map (λ c. safe eq_number c.tried) (λ c. c.expected) safe_cases safe-told c m)
  where
    go : (b : Bool) → safe eq_number c.tried ≡ b → SafeMeant c.tried b
    go true e = safe-sound eq_number c.tried (passes e)
    go false e = λ h. fails e (safe-complete eq_number c.tried h)

-- "A summary is a rule whose head is distinct variables."
no-variables : DistinctVariables {X = ℕ} []
no-variables = tt

distinct-variables : DistinctVariables (x0 ∷ x2 ∷ [])
distinct-variables = (λ m. let e = Memᴰ.eq_of_singleton m in let z : ◌≡◌ {A = ℕ} 0 2 = cc in omega arith, (λ m. absurd (Memᴰ.not-nil m), tt))

variable-twice : DistinctVariables (x0 ∷ x1 ∷ x0 ∷ []) → ⊥
variable-twice d = d.0 (Memᴰ.tail (Memᴰ.head refl))

constant-in-the-head : DistinctVariables (x0 ∷ con 3 ∷ []) → ⊥
constant-in-the-head d = d.1

-- "each as long as the relation's arity": every one of the list
all_fit : AllFit (2 ∷ 1 ∷ []) (on 0 (x0 ∷ x1 ∷ []) ∷ on 1 (con 8 ∷ []) ∷ [])
all_fit g (Memᴰ.head e) = rw e record { known = lit< tt; long = refl }
all_fit g (Memᴰ.tail (Memᴰ.head e)) = rw e record { known = lit< tt; long = refl }
all_fit g (Memᴰ.tail (Memᴰ.tail x8)) = elim x8 [ ]

last-unfit : AllFit (2 ∷ 1 ∷ []) (on 0 (x0 ∷ x1 ∷ []) ∷ on 1 (x0 ∷ x1 ∷ []) ∷ []) → ⊥
last-unfit f = let e : ◌≡◌ {A = ℕ} 2 1 = (f (on 1 (x0 ∷ x1 ∷ [])) (Memᴰ.tail (Memᴰ.head refl))).long in omega arith

-- a fact of no terms is of no relation: past the last there is no arity
no-terms : Fits {A = ℕ} (2 ∷ 1 ∷ []) record { relation = 2; terms = [] } → ⊥
no-terms f = omega (arith, f.known)

-- 1: (A,B) from 0(A,C), 0(C,B); 2 is left out; 3: () from 1(A)
abbrev three : Summaries
three = some (rule (x0 ∷ x1 ∷ []) (on 0 (x0 ∷ x2 ∷ []) ∷ on 0 (x2 ∷ x1 ∷ []) ∷ [])) ∷ none ∷ some (rule [] (on 1 (x0 ∷ []) ∷ [])) ∷ []

abbrev in_expansion : ℕ → List (Term (Own ℕ)) → Subgoal (Term (Own ℕ))
in_expansion n ts = record { relation = n; terms = ts }

-- "puts each summary's body in place": the head stays, the bodies stand one after the other, uses count from 0; of one left out nothing is put
whole-expansion : expansion three (rule (x2 ∷ con 4 ∷ []) (on 3 [] ∷ on 2 [] ∷ on 1 (x2 ∷ con 4 ∷ []) ∷ on 3 [] ∷ []))
    ≡ record {
      head = var (old 2) ∷ con 4 ∷ [];
      body = in_expansion 1 (var (fresh 0 0) ∷ []) ∷ in_expansion 0 (var (old 2) ∷ var (fresh 2 2) ∷ []) ∷ in_expansion 0 (var (fresh 2 2) ∷ con 4 ∷ []) ∷ in_expansion 1 (var (fresh 3 0) ∷ []) ∷ [];
    }
whole-expansion = refl

-- a subgoal over an admitted summary, as long as its head
over_first : Over three (on 1 (x0 ∷ con 4 ∷ []))
over_first = record { rule = rule (x0 ∷ x1 ∷ []) (on 0 (x0 ∷ x2 ∷ []) ∷ on 0 (x2 ∷ x1 ∷ []) ∷ []); admitted = refl; long = refl }

over-left-out : Over three (on 2 []) → ⊥
over-left-out o = let z : ◌≡◌ {A = ℕ} 0 1 = cc o.admitted in omega arith

over-too-long : Over three (on 3 (x0 ∷ [])) → ⊥
over-too-long o = let e : o.rule ≡ rule [] (on 1 (x0 ∷ []) ∷ []) = cc o.admitted in let z : ◌≡◌ {A = ℕ} 1 0 = rw e at o.long in omega arith

-- "A summary is admitted exactly if it has a lead of 0 or more."
lead-of-none : Admitted 7 7 (rule [] [])
lead-of-none = record { by = 0; leads = refl }

lead-over-the-end : Admitted 4294967295 1 (rule [] [])
lead-over-the-end = record { by = 1; leads = refl }

most-ahead : Admitted 1 2147483648 (rule [] [])
most-ahead = record { by = 2147483647; leads = refl }

one-behind : Admitted 7 6 (rule [] []) → ⊥
one-behind a = let z : ◌≡◌ {A = ℕ} 0 1 = cc a.leads in omega arith

most-behind : Admitted 1 2147483649 (rule [] []) → ⊥
most-behind a = let z : ◌≡◌ {A = ℕ} 0 1 = cc a.leads in omega arith

-- "0 marks a summary never filled"
never-filled : Admitted 4294967295 0 (rule [] []) → ⊥
never-filled a = let z : ◌≡◌ {A = ℕ} 0 1 = cc a.leads in omega arith

never-filled-at-0 : Admitted 0 0 (rule [] []) → ⊥
never-filled-at-0 a = let z : ◌≡◌ {A = ℕ} 0 1 = cc a.leads in omega arith

-- "A need of 0 admits every stamp but 0"
any-at-0 : Admitted 0 4294967295 (rule [] [])
any-at-0 = record { by = 0; leads = refl }

-- of book A the first two, and the third where its stamp is the need
abbrev is_admitted : Option (Rule ℕ) → Bool
is_admitted none = false
is_admitted (some r) = true

admitted-of-A : map is_admitted (admitted_of (book_a 4294967289)) ≡ true ∷ true ∷ false ∷ []
unfolding admitted
admitted-of-A = refl

admitted-of-the-second : map is_admitted (admitted_of (book_a 4294967290)) ≡ true ∷ true ∷ true ∷ []
unfolding admitted
admitted-of-the-second = refl
