-- Two rules have one head exactly if the codes of their heads are the same.
use mathlib.Core.Path.{◌≡◌, refl, sym, ap, ap₂, ◌∙◌}
use mathlib.Core.Bool.{Bool}
use Rattle.std.specs.Bool.{Decides}
use mathlib.Core.List.Memᴰ
use mathlib.Core.List.{List, [], ◌∷◌, map}
use Prim.Native.Nat.{ℕ, zero, suc, ◌≤◌}
use native.Mathlib.Omega.{arith}
use lib.ListN.{length}
use Rattle.spec.specs.Words.{Term}
use Rattle.spec.specs.RuleLayout.{TermWithin, TermsWithin}
use Rattle.codes.specs.Code.{term_code, padded}
use Rattle.codes.proofs.Padded.{code-no-end}
use Rattle.rule_codes.specs.Heads.{HeadCodes}
use Rattle.search_meaning.specs.Codings.{read_term}
use Rattle.search_meaning.proofs.Read.{read-term}
use Rattle.checker.specs.Tests.{SameHeads}

-- a code says which term it is, and is not that of an end
code-once : (t u : Term ℕ) → TermWithin t → TermWithin u → term_code t ≡ term_code u → t ≡ u
code-once t u h k e = sym (read-term t h) ∙ ap read_term e ∙ read-term u k

padded-once : (n : ℕ) (ts us : List (Term ℕ)) → length ts ≤ n → length us ≤ n → TermsWithin ts → TermsWithin us → padded n (map term_code ts) ≡ padded n (map term_code us) → ts ≡ us
padded-once n [] [] l m h k e = refl
padded-once zero [] (u ∷ us) l m h k e = absurd (omega arith)
padded-once zero (t ∷ ts) us l m h k e = absurd (omega arith)
padded-once (suc n) [] (u ∷ us) l m h k e = absurd (code-no-end u (cc))
padded-once (suc n) (t ∷ ts) [] l m h k e = absurd (code-no-end t (cc))
padded-once (suc n) (t ∷ ts) (u ∷ us) l m h k e = ap₂ ◌∷◌
    (code-once t u (h t (Memᴰ.head refl)) (k u (Memᴰ.head refl)) (cc))
    (padded-once n ts us (omega arith) (omega arith) (λ x i. h x (Memᴰ.tail i)) (λ x i. k x (Memᴰ.tail i)) (cc))

module _ {a b x y : List ℕ} (left : HeadCodes a x) (right : HeadCodes b y) where
  -- the codes are the same exactly if the heads are
  pub heads-compared : {r : Bool} → Decides r (x ≡ y) → SameHeads a b r
  heads-compared d = record {
    exactly = λ arities most p l known few q o. (
      λ t. padded-once 8 p.head q.head l.within.short o.within.short l.within.head o.within.head (sym (left.is arities most p l) ∙ d.0 t ∙ right.is known few q o),
      λ e. d.1 (left.is arities most p l ∙ ap (λ ts. padded 8 (map term_code ts)) e ∙ sym (right.is known few q o)),
    );
  }
