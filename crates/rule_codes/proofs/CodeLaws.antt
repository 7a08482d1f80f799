-- The builders' codes are those of crate codes: a table's and a base's.
use mathlib.Core.Path.{◌≡◌, refl, ap, ap₂, ◌∙◌}
use mathlib.Core.List.Memᴰ
use mathlib.Core.List.{List, [], ◌∷◌, ◌++◌, map, map-map}
use Prim.Native.Nat.{ℕ}
use native.Mathlib.Omega.{arith}
use lib.ListN.{length-map}
use Rattle.spec.specs.Words.{◌∈◌, Term, var, con, Subgoal, each}
use Rattle.spec.specs.RuleLayout.{TermWithin}
use Rattle.spec.specs.Given.{at_front}
use Rattle.spec.proofs.Lists.Gathered.{map_same}
use Rattle.codes.specs.Code.{variable_tag, term_code, slot_code, padded, codes_of, widths_of}
use Rattle.rule_codes.specs.Codes.{tabled, based}
use Rattle.rule_codes.specs.Promises.{BodyCodes}
use Rattle.rule_codes.specs.Tables.{BaseTable}

-- codes that agree on the terms give the same codes
pub codes_same : {A : Type 0} (c d : A → ℕ) (gs : List (Subgoal A)) → ((g : Subgoal A) → g ∈ gs → (t : A) → t ∈ g.terms → c t ≡ d t) → codes_of c gs ≡ codes_of d gs
codes_same c d [] h = refl
codes_same c d (g ∷ gs) h =
    ap₂ (λ ts l. (g.relation ∷ padded 8 ts) ++ l) (map_same c d g.terms (h g (Memᴰ.head refl))) (codes_same c d gs (λ k m. h k (Memᴰ.tail m)))

-- codes of subgoals whose terms have become others
pub codes-each : {A B : Type 0} (code : B → ℕ) (f : A → B) (gs : List (Subgoal A)) → codes_of code (map (each f) gs) ≡ codes_of (λ t. code (f t)) gs
codes-each code f [] = refl
codes-each code f (g ∷ gs) = ap₂ (λ ts l. (g.relation ∷ padded 8 ts) ++ l) (map-map code f g.terms) (codes-each code f gs)

pub widths-each : {A B : Type 0} (f : A → B) (gs : List (Subgoal A)) → widths_of (map (each f) gs) ≡ widths_of gs
widths-each f [] = refl
widths-each f (g ∷ gs) = ap₂ ◌∷◌ (length-map g.terms f) (widths-each f gs)

-- from a base on
pub based-slot : (t : Term ℕ) → based 0 t ≡ slot_code t
based-slot (var x) = omega arith
based-slot (con c) = refl

pub based-term : (t : Term ℕ) → based variable_tag t ≡ term_code t
based-term (var x) = refl
based-term (con c) = refl

pub tabled-based : {base : ℕ} {table : List ℕ} → BaseTable base 32 table → (t : Term ℕ) → TermWithin t → tabled table t ≡ based base t
tabled-based b (var x) h = b.code x h
tabled-based b (con c) h = refl

-- a builder's codes by one code are those by another that agrees within the bounds
pub recoded : {arities bytes before after : List ℕ} {n : ℕ} (c d : Term ℕ → ℕ) → ((t : Term ℕ) → TermWithin t → c t ≡ d t) → BodyCodes arities bytes c before after n → BodyCodes arities bytes d before after n
recoded {before = before} c d h w = record {
  count = w.count;
  codes = λ m r l. w.codes m r l ∙ ap (λ ws. at_front ws before) (codes_same c d r.body (λ g i t j. h t (l.within.body g i t j)));
}
