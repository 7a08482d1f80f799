-- Any two results that meet a promise are the same.
use mathlib.Core.Path.{◌≡◌, refl, sym, ap, ◌∙◌}
use mathlib.Core.Option.{some}
use mathlib.Core.List.Memᴰ
use mathlib.Core.List.{List, [], ◌∷◌}
use Prim.Native.Nat.{ℕ}
use native.Mathlib.Decide.{ℕ_discrete}
use native.Mathlib.Omega.{arith}
use lib.ListN.{length, get_or}
use lib.Seq.{ext_get_or}
use Rattle.spec.specs.Words.{◌∈◌, Term, var, con, Subgoal}
use Rattle.spec.specs.Summaries.{Summaries, Own}
use Rattle.rule_codes.specs.Laid.{Laid, LaidOver, UseOver}
use Rattle.rule_codes.specs.BodyTerms.{BodyTerms}
use Rattle.rule_codes.specs.Heads.{HeadCodes, HeadBindings}
use Rattle.rule_codes.specs.Uses.{UseCodes}
use Rattle.rule_codes.proofs.Unique.Ascending.{in-order-unique}

-- whether a variable stands in a head
shown : (x : ℕ) (head : List (Term ℕ)) → Dec (var x ∈ head)
shown x [] = no Memᴰ.not-nil
shown x (con c ∷ head) = go (shown x head)
  where
    other : (var x ∈ head → ⊥) → var x ∈ (con c ∷ head) → ⊥
    other f (Memᴰ.head e) = let z : ◌≡◌ {A = ℕ} 0 1 = cc in omega arith
    other f (Memᴰ.tail i) = f i

    go : Dec (var x ∈ head) → Dec (var x ∈ (con c ∷ head))
    go (yes i) = yes (Memᴰ.tail i)
    go (no f) = no (other f)
shown x (var y ∷ head) = go (ℕ_discrete x y) (shown x head)
  where
    other : (x ≡ y → ⊥) → (var x ∈ head → ⊥) → var x ∈ (var y ∷ head) → ⊥
    other d f (Memᴰ.head e) = d (cc)
    other d f (Memᴰ.tail i) = f i

    go : Dec (x ≡ y) → Dec (var x ∈ head) → Dec (var x ∈ (var y ∷ head))
    go (yes e) s = yes (Memᴰ.head (ap var e))
    go (no d) (yes i) = yes (Memᴰ.tail i)
    go (no d) (no f) = no (other d f)

module _ {bytes a b : List ℕ} (l : Laid bytes) where
  pub head-codes-unique : HeadCodes bytes a → HeadCodes bytes b → a ≡ b
  head-codes-unique t u = t.is l.arities l.most l.rule l.layout ∙ sym (u.is l.arities l.most l.rule l.layout)

  -- bindings are 64 codes
  pub bindings-unique : length a ≡ 64 → length b ≡ 64 → HeadBindings bytes a → HeadBindings bytes b → a ≡ b
  bindings-unique n m t u = ext_get_or 0 a b (n ∙ sym m) (λ x h. at x (shown x l.rule.head))
    where
      at : (x : ℕ) → Dec (var x ∈ l.rule.head) → get_or a x 0 ≡ get_or b x 0
      at x (yes i) = t.shown l.arities l.most l.rule l.layout x i ∙ sym (u.shown l.arities l.most l.rule l.layout x i)
      at x (no f) = t.other l.arities l.most l.rule l.layout x f ∙ sym (u.other l.arities l.most l.rule l.layout x f)

pub use-codes-unique : {arities bytes row before after other : List ℕ} {u n m : ℕ} {code : Term (Own ℕ) → ℕ} → UseOver arities bytes row
    → UseCodes arities bytes row code u before after n → UseCodes arities bytes row code u before other m → (after ≡ other) × (n ≡ m)
use-codes-unique {u = u} w a b =
    (a.codes w.rule s g w.is refl ∙ sym (b.codes w.rule s g w.is refl), a.count w.rule w.terms w.is ∙ sym (b.count w.rule w.terms w.is))
  where
    -- the summary alone, and the row
    s : Summaries
    s = some w.rule ∷ []

    g : Subgoal (Term ℕ)
    g = record { relation = 1; terms = w.terms }

pub body-terms-unique : {arities bytes before after other : List ℕ} {n m : ℕ} → LaidOver arities bytes → BodyTerms arities bytes before after n → BodyTerms arities bytes before other m → (after ≡ other) × (n ≡ m)
body-terms-unique q a b = in-order-unique (a.terms q.most q.rule q.layout) (b.terms q.most q.rule q.layout)
