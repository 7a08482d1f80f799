-- What is written for rows' codes is the rows' layout; with the question's head it is the rewriting's.
use mathlib.Core.Path.{◌≡◌, refl, sym, ap, ap₂, ◌∙◌}
use mathlib.Core.List.Memᴰ
use mathlib.Core.List.{List, [], ◌∷◌, ◌++◌, map}
use Prim.Native.Nat.{ℕ, ◌+◌, ◌*◌, ◌%◌, ◌<◌, ◌≤◌}
use native.Mathlib.Omega.{arith}
use lib.ListN.{length, take, length-map}
use lib.Seq.{take_at, drop_at, take-append_seam}
use Rattle.spec.specs.Words.{◌∈◌, Term, var, con, Subgoal, Rule}
use Rattle.spec.specs.Summaries.{rewriting}
use Rattle.spec.specs.Numbers.{little}
use Rattle.spec.specs.RuleLayout.{term_bytes, terms_bytes, subgoal_bytes, subgoals_bytes, rule_bytes, TermWithin, TermsWithin}
use Rattle.spec.proofs.Bytes.Sizes.{terms-size}
use Rattle.codes.specs.Code.{variable_tag, constant_tag, term_code, padded, subgoal_codes, codes_of, widths_of}
use Rattle.codes.proofs.Padded.{nine, padded-front}
use Rattle.answer.specs.Bytes.{code_bytes, codes_bytes, row_bytes, rows_bytes, rewriting_bytes}
use Rattle.answer.proofs.RuleStores.{tag-variable, tag-constant}

term-means : (t : Term ℕ) → TermWithin t → code_bytes (term_code t) ≡ term_bytes t
term-means (var x) h =
    let e : (variable_tag + x) % 4294967296 ≡ x = omega arith in
    ap₂ (λ t n. t ∷ little 4 n) (sym (tag-variable (variable_tag + x) (omega arith))) e
term-means (con k) h =
    let e : (constant_tag + k) % 4294967296 ≡ k = omega arith in
    ap₂ (λ t n. t ∷ little 4 n) (sym (tag-constant (constant_tag + k) (omega arith))) e

terms-mean : (ts : List (Term ℕ)) → TermsWithin ts → codes_bytes (map term_code ts) ≡ terms_bytes ts
terms-mean [] h = refl
terms-mean (t ∷ ts) h = ap₂ ◌++◌ (term-means t (h t (Memᴰ.head refl))) (terms-mean ts (λ s m. h s (Memᴰ.tail m)))

-- a row can be written: its number is a byte, and it has few terms, within their bounds
pub record RowWithin (g : Subgoal (Term ℕ)) : Type 0 where
  pub number : g.relation < 256
  pub narrow : length g.terms ≤ 8
  pub terms : TermsWithin g.terms

-- the row's codes, by its width
row-means : (g : Subgoal (Term ℕ)) → RowWithin g → row_bytes (subgoal_codes term_code g) (length g.terms) ≡ subgoal_bytes g
row-means g h = ap₂ ◌∷◌ number (ap codes_bytes padding ∙ terms-mean g.terms h.terms)
  where
    number : g.relation % 256 ≡ g.relation
    number = let l = h.number in omega arith

    padding : take (length g.terms) (padded 8 (map term_code g.terms)) ≡ map term_code g.terms
    padding =
        let n = h.narrow in
        ap (λ n. take n (padded 8 (map term_code g.terms))) (sym (length-map g.terms term_code))
        ∙ padded-front 8 (map term_code g.terms) (omega (arith, length-map g.terms term_code))

rows-mean : (l : List (Subgoal (Term ℕ))) → ((g : Subgoal (Term ℕ)) → g ∈ l → RowWithin g) → rows_bytes (codes_of term_code l) (widths_of l) ≡ subgoals_bytes l
rows-mean [] h = refl
rows-mean (g ∷ l) h = ap₂ ◌++◌
    (ap (λ r. row_bytes r (length g.terms)) (take_at (subgoal_codes term_code g) (codes_of term_code l) 9 (nine term_code g)) ∙ row-means g (h g (Memᴰ.head refl)))
    (ap (λ c. rows_bytes c (widths_of l)) (drop_at (subgoal_codes term_code g) (codes_of term_code l) 9 (nine term_code g)) ∙ rows-mean l (λ k m. h k (Memᴰ.tail m)))

-- the question's bytes have its head's length first, and its head's terms from the third byte on
pub rewriting-means : (q : Rule ℕ) (body codes widths : List ℕ) (l : List (Subgoal (Term ℕ))) → rule_bytes q ≡ body → ((g : Subgoal (Term ℕ)) → g ∈ l → RowWithin g)
    → codes ≡ codes_of term_code l → widths ≡ widths_of l → rewriting_bytes body codes widths ≡ rule_bytes (rewriting q l)
rewriting-means q body codes widths l b h e f =
    ap (λ x. rewriting_bytes x codes widths) (sym b) ∙ ap₂ (rewriting_bytes (rule_bytes q)) e f
    ∙ ap₂ (λ n x. length q.head ∷ n ∷ (x ++ rows_bytes (codes_of term_code l) (widths_of l))) (length-map l (λ g. length g.terms)) head
    ∙ ap (λ y. length q.head ∷ length l ∷ (terms_bytes q.head ++ y)) (rows-mean l h)
  where
    head : take (5 * length q.head) (terms_bytes q.head ++ subgoals_bytes q.body) ≡ terms_bytes q.head
    head = ap (λ n. take n (terms_bytes q.head ++ subgoals_bytes q.body)) (sym (terms-size q.head)) ∙ take-append_seam (terms_bytes q.head) (subgoals_bytes q.body)
