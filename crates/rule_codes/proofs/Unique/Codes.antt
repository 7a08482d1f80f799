-- Any two results that meet a promise are the same.
use mathlib.Core.Path.{◌≡◌, sym, ◌∙◌}
use mathlib.Core.List.{List}
use Prim.Native.Nat.{ℕ}
use native.Mathlib.Omega.{arith}
use lib.ListN.{length}
use lib.Seq.{ext_get_or}
use Rattle.spec.specs.Words.{Term}
use Rattle.rule_codes.specs.Laid.{Laid, LaidOver, SomeUse}
use Rattle.rule_codes.specs.Promises.{HeadCount, GoalCount, BodyCodes, BodyWidths}
use Rattle.rule_codes.specs.Steps.{SomeTerm, SomeTerms, CodeAt, PaddedAt}
use Rattle.rule_codes.specs.Tables.{BaseTable, UseTable}

module _ {bytes : List ℕ} (l : Laid bytes) where
  pub heads-unique : {n m : ℕ} → HeadCount bytes n → HeadCount bytes m → n ≡ m
  heads-unique a b = a.is l.arities l.most l.rule l.layout ∙ sym (b.is l.arities l.most l.rule l.layout)

  pub goals-unique : {n m : ℕ} → GoalCount bytes n → GoalCount bytes m → n ≡ m
  goals-unique a b = a.is l.arities l.most l.rule l.layout ∙ sym (b.is l.arities l.most l.rule l.layout)

pub code-unique : {bytes table : List ℕ} {at n m : ℕ} → SomeTerm bytes at → CodeAt bytes at table n → CodeAt bytes at table m → n ≡ m
code-unique t a b = a.is t.term t.here ∙ sym (b.is t.term t.here)

pub padded-unique : {bytes table : List ℕ} {at many k n m : ℕ} → SomeTerms bytes at many → PaddedAt bytes at many k table n → PaddedAt bytes at many k table m → n ≡ m
padded-unique t a b = a.is t.terms t.here ∙ sym (b.is t.terms t.here)

module _ {arities bytes before after other : List ℕ} {n m : ℕ} (l : LaidOver arities bytes) where
  pub codes-unique : {code : Term ℕ → ℕ} → BodyCodes arities bytes code before after n → BodyCodes arities bytes code before other m → (after ≡ other) × (n ≡ m)
  codes-unique a b =
      (a.codes l.most l.rule l.layout ∙ sym (b.codes l.most l.rule l.layout), a.count l.most l.rule l.layout ∙ sym (b.count l.most l.rule l.layout))

  pub widths-unique : BodyWidths arities bytes before after n → BodyWidths arities bytes before other m → (after ≡ other) × (n ≡ m)
  widths-unique a b =
      (a.widths l.most l.rule l.layout ∙ sym (b.widths l.most l.rule l.layout), a.count l.most l.rule l.layout ∙ sym (b.count l.most l.rule l.layout))

-- tables have 32 codes
module _ {a b : List ℕ} where
  pub base-unique : {base : ℕ} → BaseTable base 32 a → BaseTable base 32 b → a ≡ b
  base-unique t u = ext_get_or 0 a b (t.long ∙ sym u.long) (λ x h. let n = t.long in t.code x (omega arith) ∙ sym (u.code x (omega arith)))

  pub use-unique : {bytes row : List ℕ} {olds base : ℕ} → length a ≡ 32 → length b ≡ 32 → SomeUse bytes row → UseTable bytes row olds base a → UseTable bytes row olds base b → a ≡ b
  use-unique n m s t u =
      ext_get_or 0 a b (n ∙ sym m) (λ x h. t.code s.arities s.rule s.terms s.is x (omega arith) ∙ sym (u.code s.arities s.rule s.terms s.is x (omega arith)))
