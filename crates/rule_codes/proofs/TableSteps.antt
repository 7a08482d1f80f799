-- Tables of the variables' codes, filled step by step.
use mathlib.Core.Path.{◌≡◌, sym, ap, ap₂, ◌∙◌, subst}
use mathlib.Core.Bool.{cond}
use mathlib.Core.Option.{some}
use mathlib.Core.List.{List, [], ◌∷◌, map}
use Prim.Native.Nat.{ℕ, zero, suc, ◌+◌, ◌*◌, ◌-◌, ◌<◌, ◌≤◌}
use native.Mathlib.Nat.{min-le_right}
use native.Mathlib.Omega.{arith}
use lib.Dec.{eqb}
use lib.ListN.{length, get_or, drop, set, length-set, length-take, length-map, drop_of_length-le}
use lib.Seq.{get_or-take}
use Rattle.spec.specs.Words.{Term, var, con, Rule, DistinctVariables}
use Rattle.spec.specs.Summaries.{place, replaced}
use Rattle.spec.specs.Numbers.{number_at}
use Rattle.spec.specs.RuleLayout.{TermWithin}
use Rattle.spec.proofs.Bytes.Standing.{TermAt}
use Rattle.spec.proofs.Lists.Places.{nothing, place-some, place-drop}
use Rattle.spec.proofs.Bytes.RulePlaces.{head-terms}
use Rattle.spec.proofs.Lists.At.{mapped}
use Rattle.codes.specs.Code.{term_code}
use Rattle.rule_codes.specs.Codes.{based, counted}
use Rattle.rule_codes.specs.Laid.{UseOf, SomeUse}
use Rattle.rule_codes.specs.Promises.{HeadCount}
use Rattle.rule_codes.specs.Tables.{BaseTable, OldCode, UseTable}
use Rattle.spec.proofs.Lists.Stores.{after_store}
use Rattle.spec.proofs.Lists.Counted.{place_in}

-- a head of distinct variables has a variable at each place
variable-there : (head : List (Term ℕ)) → DistinctVariables head → (i : ℕ) (t : Term ℕ) → place head (suc i) ≡ some t → (x : ℕ) × (t ≡ var x)
variable-there [] d i t p = nothing p
variable-there (var x ∷ head) d zero t p = (x, cc)
variable-there (var x ∷ head) d (suc i) t p = variable-there head d.1 i t p
variable-there (con c ∷ head) d i t p = absurd d

-- Place i of a use: the head's variable there, and the row's term.
pub record UseAt (bytes row : List ℕ) (v : Rule ℕ) (ts : List (Term ℕ)) (i : ℕ) : Type 0 where
  pub x : ℕ
  pub shown : place v.head (suc i) ≡ some (var x)
  pub here : TermAt bytes (2 + 5 * i) (var x)
  pub term : Term ℕ
  pub given : place ts (suc i) ≡ some term
  pub within : TermWithin term
  pub code : get_or row i 0 ≡ term_code term
  pub room : i < length row

module _ {arities bytes row : List ℕ} {v : Rule ℕ} {ts : List (Term ℕ)} (u : UseOf arities bytes row v ts) where
  row-long : length ts ≤ length row
  row-long = omega (arith, ap length u.codes, length-take (length ts) row, length-map ts term_code, min-le_right (length ts) (length row))

  pub use-at : (i : ℕ) → i < length v.head → UseAt bytes row v ts i
  use-at i h = record {
    x = x.0;
    shown = shown;
    here = (head-terms u.layout).term i (var x.0) shown;
    term = t.0;
    given = t.1;
    within = u.within t.0 (place_in ts (suc i) t.1);
    code = sym (get_or-take (length ts) row i 0 (let l = u.long in omega arith)) ∙ ap (λ l. get_or l i 0) u.codes ∙ mapped term_code ts i 0 t.0 t.1;
    room = let l = u.long in let m = row-long in omega arith;
  }
    where
      s : (t : Term ℕ) × (place v.head (suc i) ≡ some t)
      s = place-some v.head i h

      x : (x : ℕ) × (s.0 ≡ var x)
      x = variable-there v.head u.plain i s.0 s.1

      shown : place v.head (suc i) ≡ some (var x.0)
      shown = s.1 ∙ ap some x.1

      t : (t : Term ℕ) × (place ts (suc i) ≡ some t)
      t = place-some ts i (let l = u.long in omega arith)

module _ (bytes row : List ℕ) (olds base : ℕ) where
  -- The table once the places from i on are done.
  pub record TableFrom (i : ℕ) (table : List ℕ) : Type 0 where
    pub long : length table ≡ 32
    pub within : (arities : List ℕ) (v : Rule ℕ) (ts : List (Term ℕ)) → UseOf arities bytes row v ts → i ≤ length v.head
    pub code : (arities : List ℕ) (v : Rule ℕ) (ts : List (Term ℕ)) → UseOf arities bytes row v ts → (x : ℕ) → x < 32
        → get_or table x 0 ≡ replaced (drop i v.head) (map (based olds) (drop i ts)) (counted base) x

  pub from-starts : (n : ℕ) (table : List ℕ) → HeadCount bytes n → BaseTable base 32 table → TableFrom n table
  from-starts n table h b = record {
    long = b.long;
    within = λ a v ts u. let same = h.is a u.most v u.layout in omega arith;
    code = λ a v ts u x l. b.code x l ∙ ap (λ hs. replaced hs (map (based olds) (drop n ts)) (counted base) x) (sym (drop_of_length-le v.head {i = n} (let same = h.is a u.most v u.layout in omega arith)));
  }

  pub from-ends : (i : ℕ) (table : List ℕ) → i ≤ 0 → TableFrom i table → UseTable bytes row olds base table
  from-ends i table h f = let e : i ≡ 0 = omega arith in record { code = (subst (λ k. TableFrom k table) e f).code }

  module _ (i : ℕ) (table : List ℕ) (f : TableFrom (suc i) table) (y w : ℕ) (e : y ≡ number_at 4 bytes (3 + 5 * i)) (o : OldCode olds (get_or row i 0) w) where
    module _ {arities : List ℕ} {v : Rule ℕ} {ts : List (Term ℕ)} (u : UseOf arities bytes row v ts) where
      here : UseAt bytes row v ts i
      here = use-at u i (f.within arities v ts u)

      variable : y ≡ here.x
      variable = let three : 2 + 5 * i + 1 ≡ 3 + 5 * i = omega arith in e ∙ ap (number_at 4 bytes) (sym three) ∙ here.here.number

      pub small : y < 32
      small = let q = variable in let b = here.here.within in omega arith

      step : (x : ℕ) → x < 32 → get_or (set table y w) x 0 ≡ replaced (drop i v.head) (map (based olds) (drop i ts)) (counted base) x
      step x l =
          after_store table y w x (let s = small in let n = f.long in omega arith)
          ∙ ap₂ (λ z k. cond (eqb z x) k (get_or table x 0)) variable (o.is here.term here.within here.code)
          ∙ ap (cond (eqb here.x x) (based olds here.term)) (f.code arities v ts u x l)
          ∙ sym (ap₂ (λ hs l. replaced hs (map (based olds) l) (counted base) x) (place-drop v.head i (var here.x) here.shown) (place-drop ts i here.term here.given))

    pub from_goes : TableFrom i (set table y w)
    from_goes = record { long = length-set table y w ∙ f.long; within = λ a v ts u. let h = f.within a v ts u in omega arith; code = λ a v ts u. step u }

  -- the places from the last one down
  module _ (i : ℕ) (turn : 0 < i) (table : List ℕ) (f : TableFrom i table) where
    below : TableFrom (suc (i - 1)) table
    below = let e : i ≡ suc (i - 1) = omega arith in subst (λ k. TableFrom k table) e f

    pub place_down : (s : SomeUse bytes row) → UseAt bytes row s.rule s.terms (i - 1)
    place_down s = use-at s.is (i - 1) (below.within s.arities s.rule s.terms s.is)

    pub variable-down : SomeUse bytes row → (y w : ℕ) → y ≡ number_at 4 bytes (3 + 5 * (i - 1)) → OldCode olds (get_or row (i - 1) 0) w → y < 32
    variable-down s y w e o = small (i - 1) table below y w e o s.is

    pub table-down : (y w : ℕ) → y ≡ number_at 4 bytes (3 + 5 * (i - 1)) → OldCode olds (get_or row (i - 1) 0) w → TableFrom (i - 1) (set table y w)
    table-down y w e o = from_goes (i - 1) table below y w e o
