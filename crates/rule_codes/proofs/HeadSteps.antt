-- A head's codes and bindings, term by term.
use mathlib.Core.Path.{◌≡◌, refl, sym, ap, ◌∙◌, subst}
use mathlib.Core.Bool.{Bool, true, false, cond}
use mathlib.Core.Logic.{◌⊎◌, inl, inr, ⊎_elim}
use mathlib.Core.List.Memᴰ
use mathlib.Core.List.{List, [], ◌∷◌, ◌++◌}
use Prim.Native.Nat.{ℕ, suc, ◌+◌, ◌*◌, ◌<◌, ◌≤◌}
use native.Mathlib.Omega.{arith}
use lib.Dec.{eqb}
use lib.ListN.{length, get_or, take, set, replicate, length-set}
use lib.Seq.{take_all}
use borrow.Author.Tests.{eqb-true, eqb-false}
use Rattle.spec.specs.Words.{◌∈◌, Term, var, con, Rule}
use Rattle.spec.specs.Numbers.{number_at}
use Rattle.spec.specs.RuleLayout.{Layout}
use Rattle.spec.proofs.Lists.Gathered.{map_same}
use Rattle.spec.proofs.Bytes.Standing.{TermAt}
use Rattle.spec.proofs.Lists.Places.{place-some, take-place}
use Rattle.spec.proofs.Bytes.RulePlaces.{head-terms}
use Rattle.spec.proofs.Lists.Zeros.{zero-at}
use Rattle.codes.specs.Code.{variable_tag, term_code, padded}
use Rattle.rule_codes.specs.Codes.{tabled}
use Rattle.rule_codes.specs.Heads.{HeadCodes, HeadBindings}
use Rattle.rule_codes.specs.Laid.{Laid}
use Rattle.rule_codes.specs.Promises.{HeadCount}
use Rattle.rule_codes.specs.Steps.{Many, SomeTerms, PaddedCodes}
use Rattle.rule_codes.specs.Tables.{BaseTable}
use Rattle.rule_codes.proofs.CodeLaws.{tabled-based, based-term}
use Rattle.spec.proofs.Lists.Stores.{after_store}

module _ {bytes : List ℕ} {n : ℕ} (count : HeadCount bytes n) where
  head-many : {arities : List ℕ} {most : ℕ} {r : Rule ℕ} → Layout arities most bytes r → Many bytes 2 n r.head
  head-many {arities} {most} {r} l = record { long = sym (count.is arities most r l); here = head-terms l }

  pub head-there : Laid bytes → SomeTerms bytes 2 n
  head-there w = record { terms = w.rule.head; here = head-many w.layout }

  pub head-coded : {table codes : List ℕ} → BaseTable variable_tag 32 table → PaddedCodes bytes 2 n table codes → HeadCodes bytes codes
  head-coded {table} b p = record {
    is = λ a m r l. p.is r.head (head-many l) ∙ ap (padded 8) (map_same (tabled table) term_code r.head (λ t i. tabled-based b t (l.within.head t i) ∙ based-term t));
  }

-- The bindings after i of the head's terms.
pub record BoundSoFar (bytes : List ℕ) (i : ℕ) (bound : List ℕ) : Type 0 where
  pub long : length bound ≡ 64
  pub shown : (arities : List ℕ) (most : ℕ) (r : Rule ℕ) → Layout arities most bytes r → (x : ℕ) → var x ∈ take i r.head → get_or bound x 0 ≡ term_code (var x)
  pub other : (arities : List ℕ) (most : ℕ) (r : Rule ℕ) → Layout arities most bytes r → (x : ℕ) → (var x ∈ take i r.head → ⊥) → get_or bound x 0 ≡ 0

pub bound-starts : (bytes : List ℕ) → BoundSoFar bytes 0 (replicate 64 0)
bound-starts bytes = record { long = refl; shown = λ a m r l x i. absurd (Memᴰ.not-nil i); other = λ a m r l x f. zero-at 64 x }

pub bound-ends : {bytes bound : List ℕ} {n i : ℕ} → HeadCount bytes n → n ≤ i → BoundSoFar bytes i bound → HeadBindings bytes bound
bound-ends {bytes} {bound} {n} {i} count h s = record {
  shown = λ a m r l x k. s.shown a m r l x (subst (λ t. var x ∈ t) (sym (whole a m r l)) k);
  other = λ a m r l x f. s.other a m r l x (λ k. f (subst (λ t. var x ∈ t) (whole a m r l) k));
}
  where
    whole : (arities : List ℕ) (most : ℕ) (r : Rule ℕ) → Layout arities most bytes r → take i r.head ≡ r.head
    whole a m r l = take_all i r.head (let same = count.is a m r l in omega arith)

module _ {bytes bound : List ℕ} {n i : ℕ} (count : HeadCount bytes n) (turn : i < n) (s : BoundSoFar bytes i bound) where
  -- the head's next term
  record NextBound (r : Rule ℕ) : Type 0 where
    term : Term ℕ
    here : TermAt bytes (2 + 5 * i) term
    more : take (i + 1) r.head ≡ take i r.head ++ (term ∷ [])

  next : (arities : List ℕ) (most : ℕ) (r : Rule ℕ) → Layout arities most bytes r → NextBound r
  next a m r l =
      let t = place-some r.head i (let same = count.is a m r l in omega arith) in
      let one : i + 1 ≡ suc i = omega arith in
      record { term = t.0; here = (head-terms l).term i t.0 t.1; more = ap (λ k. take k r.head) one ∙ take-place r.head i t.0 t.1 }

  -- the terms up to it, and it
  earlier : {r : Rule ℕ} (k : NextBound r) {t : Term ℕ} → t ∈ take i r.head → t ∈ take (i + 1) r.head
  earlier {r} k {t} h = subst (λ l. t ∈ l) (sym k.more) (Memᴰ.append_left (k.term ∷ []) h)

  last : {r : Rule ℕ} (k : NextBound r) {t : Term ℕ} → t ≡ k.term → t ∈ take (i + 1) r.head
  last {r} k {t} e = subst (λ l. t ∈ l) (sym k.more) (Memᴰ.append_right (take i r.head) (Memᴰ.head e))

  either : {r : Rule ℕ} (k : NextBound r) {t : Term ℕ} → t ∈ take (i + 1) r.head → (t ∈ take i r.head) ⊎ (t ≡ k.term)
  either {r} k {t} h = ⊎_elim inl (λ m. inr (Memᴰ.eq_of_singleton m)) (Memᴰ.append_cases (take i r.head) (subst (λ l. t ∈ l) k.more h))

  pub term-room : Laid bytes → 2 + 5 * i + 5 ≤ length bytes
  term-room w = (next w.arities w.most w.rule w.layout).here.room

  module _ {x : ℕ} (tag : get_or bytes (2 + 5 * i) 0 ≡ 0) (e : x ≡ number_at 4 bytes (2 + 5 * i + 1)) where
    variable : {r : Rule ℕ} (k : NextBound r) → (k.term ≡ var x) × (x < 32)
    variable k = go k.term k.here
      where
        go : (t : Term ℕ) → TermAt bytes (2 + 5 * i) t → (t ≡ var x) × (x < 32)
        go (var y) w = let m = w.number in let b = w.within in (ap var (sym (e ∙ m)), omega arith)
        go (con c) w = let m = w.tag in absurd (omega arith)

    pub variable-small : Laid bytes → x < 32
    variable-small w = (variable (next w.arities w.most w.rule w.layout)).1

    pub bound-variable : BoundSoFar bytes (i + 1) (set bound x (variable_tag + x))
    bound-variable = record { long = length-set bound x (variable_tag + x) ∙ s.long; shown = shown; other = other }
      where
        stored : {r : Rule ℕ} → NextBound r → (y : ℕ) → get_or (set bound x (variable_tag + x)) y 0 ≡ cond (eqb x y) (variable_tag + x) (get_or bound y 0)
        stored k y = after_store bound x (variable_tag + x) y (let h = (variable k).1 in let n = s.long in omega arith)

        shown : (arities : List ℕ) (most : ℕ) (r : Rule ℕ) → Layout arities most bytes r → (y : ℕ) → var y ∈ take (i + 1) r.head → get_or (set bound x (variable_tag + x)) y 0 ≡ term_code (var y)
        shown a m r l y h = stored k y ∙ go (eqb x y) refl (either k h)
          where
            k : NextBound r
            k = next a m r l

            go : (b : Bool) → eqb x y ≡ b → (var y ∈ take i r.head) ⊎ (var y ≡ k.term) → cond b (variable_tag + x) (get_or bound y 0) ≡ term_code (var y)
            go true q h = ap (λ z. variable_tag + z) (eqb-true x y q)
            go false q (inl h) = s.shown a m r l y h
            go false q (inr h) = let same : var y ≡ var x = h ∙ (variable k).0 in absurd (eqb-false x y q (cc))

        other : (arities : List ℕ) (most : ℕ) (r : Rule ℕ) → Layout arities most bytes r → (y : ℕ) → (var y ∈ take (i + 1) r.head → ⊥) → get_or (set bound x (variable_tag + x)) y 0 ≡ 0
        other a m r l y f = stored k y ∙ go (eqb x y) refl
          where
            k : NextBound r
            k = next a m r l

            go : (b : Bool) → eqb x y ≡ b → cond b (variable_tag + x) (get_or bound y 0) ≡ 0
            go true q = absurd (f (last k (ap var (sym (eqb-true x y q)) ∙ sym (variable k).0)))
            go false q = s.other a m r l y (λ h. f (earlier k h))

  pub bound-constant : (get_or bytes (2 + 5 * i) 0 ≡ 0 → ⊥) → BoundSoFar bytes (i + 1) bound
  bound-constant tag = record { long = s.long; shown = shown; other = λ a m r l x f. s.other a m r l x (λ h. f (earlier (next a m r l) h)) }
    where
      no-variable : (t : Term ℕ) (x : ℕ) → TermAt bytes (2 + 5 * i) t → var x ≡ t → ⊥
      no-variable (var y) x w e = tag w.tag
      no-variable (con c) x w e = let z : ◌≡◌ {A = ℕ} 0 1 = cc in omega arith

      shown : (arities : List ℕ) (most : ℕ) (r : Rule ℕ) → Layout arities most bytes r → (x : ℕ) → var x ∈ take (i + 1) r.head → get_or bound x 0 ≡ term_code (var x)
      shown a m r l x h = let k = next a m r l in ⊎_elim (s.shown a m r l x) (λ e. absurd (no-variable k.term x k.here e)) (either k h)
