-- The codes of a question's terms, in order, are its terms, in order.
use mathlib.Core.Path.{◌≡◌, refl, sym, ap, ap₂, ◌∙◌, subst}
use mathlib.Core.List.Memᴰ
use mathlib.Core.List.{List, [], ◌∷◌, map}
use Prim.Native.Nat.{ℕ, ◌*◌, ◌<◌, ◌≤◌}
use native.Mathlib.Omega.{arith}
use lib.ListN.{length, length-append}
use Rattle.spec.specs.Words.{◌∈◌, Term, var, con, Subgoal, Rule}
use Rattle.spec.specs.Order.{TermBefore}
use Rattle.spec.specs.RuleLayout.{TermWithin, RuleWithin}
use Rattle.spec.specs.BookLayout.{Arities, question_most}
use Rattle.spec.proofs.Decided.Orders.{term_order}
use Rattle.spec.proofs.Lists.Gathered.{gather, gather-in, gather-out}
use Rattle.spec.proofs.Lists.Rising.{rising-map}
use Rattle.spec.proofs.Lists.Enumerate.{Enumerates}
use Rattle.spec.proofs.Lists.Sorted.{sorted, sorted-in, sorted-out, sorted-rising}
use Rattle.spec.proofs.Bytes.Sizes.{terms-few}
use Rattle.containment.proofs.Normal.{sorted-few}
use Rattle.codes.specs.Code.{term_code}
use Rattle.rule_codes.specs.InOrder.{InOrder}
use Rattle.rule_codes.specs.BodyTerms.{CodeOf}
use Rattle.search_meaning.specs.Coded.{TermIn}
use Rattle.search_meaning.specs.Codings.{read_term}
use Rattle.search_meaning.proofs.Read.{read-term}
use Rattle.summary_rows.proofs.Unique.Rows.{enumerates-once}
use Rattle.summary_rows.specs.RowTask.{TermsOf}

abbrev terms_in : List (Subgoal (Term ℕ)) → List (Term ℕ)
terms_in gs = gather (λ g. g.terms) gs

terms-most : (gs : List (Subgoal (Term ℕ))) → ((g : Subgoal (Term ℕ)) → g ∈ gs → length g.terms ≤ 8) → length (terms_in gs) ≤ 8 * length gs
terms-most [] h = omega arith
terms-most (g ∷ gs) h = omega (arith, length-append g.terms (terms_in gs), h g (Memᴰ.head refl), terms-most gs (λ k i. h k (Memᴰ.tail i)))

-- however they are listed, they are no more than the places where they stand
terms-listed-few : (gs : List (Subgoal (Term ℕ))) (ts : List (Term ℕ)) → Enumerates (λ t. TermIn t gs) TermBefore ts → length ts ≤ length (terms_in gs)
terms-listed-few gs ts all = omega (arith, ap length same, sorted-few term_order (terms_in gs))
  where
    in_order : Enumerates (λ t. TermIn t gs) TermBefore (sorted term_order (terms_in gs))
    in_order = record {
      sound = λ t i. gather-out (λ g. g.terms) gs (sorted-out term_order (terms_in gs) t i);
      complete = λ t i. sorted-in term_order (terms_in gs) t (gather-in (λ g. g.terms) gs i.1 i.2);
      rising = sorted-rising term_order (terms_in gs);
    }

    same : ts ≡ sorted term_order (terms_in gs)
    same = enumerates-once term_order (λ t. TermIn t gs) ts (sorted term_order (terms_in gs)) all in_order

-- codes sort as terms do
code-before : (s t : Term ℕ) → TermWithin s → TermWithin t → term_code s < term_code t → TermBefore s t
code-before (var x) (var y) h k l = omega arith
code-before (var x) (con d) h k l = tt
code-before (con c) (var y) h k l = omega arith
code-before (con c) (con d) h k l = omega arith

recoded : (ws : List ℕ) → ((w : ℕ) → w ∈ ws → term_code (read_term w) ≡ w) → map term_code (map read_term ws) ≡ ws
recoded [] h = refl
recoded (w ∷ ws) h = ap₂ ◌∷◌ (h w (Memᴰ.head refl)) (recoded ws (λ x i. h x (Memᴰ.tail i)))

module _ {arities : List ℕ} (known : Arities arities) {q : Rule ℕ} (within : RuleWithin arities question_most q) {before after : List ℕ} {n : ℕ} (o : InOrder (CodeOf q.body) before after n) where
  pub terms_of : List (Term ℕ)
  terms_of = map read_term o.list

  code-within : {w : ℕ} (x : CodeOf q.body w) → TermWithin x.term
  code-within x = within.body x.goal x.among x.term x.stands

  code_read : {w : ℕ} (x : CodeOf q.body w) → read_term w ≡ x.term
  code_read x = ap read_term x.is ∙ read-term x.term (code-within x)

  code_of : {w : ℕ} → w ∈ o.list → CodeOf q.body w
  code_of {w} i = (o.members w).0 i

  pub terms-codes : map term_code terms_of ≡ o.list
  unfolding terms_of
  terms-codes = recoded o.list (λ w i. let x = code_of i in ap term_code (code_read x) ∙ sym x.is)

  enumerated : Enumerates (λ t. TermIn t q.body) TermBefore terms_of
  unfolding terms_of
  enumerated = record {
    sound = λ t i. let w = Memᴰ.of_map read_term o.list i in let x = code_of w.1 in subst (λ s. TermIn s q.body) (sym (code_read x) ∙ w.2) (x.goal, x.among, x.stands);
    complete = λ t i. Memᴰ.cast (sym (read-term t (within.body i.0 i.1 t i.2))) (Memᴰ.map read_term ((o.members (term_code t)).1 record { goal = i.0; among = i.1; term = t; stands = i.2; is = refl }));
    rising = rising-map ◌<◌ TermBefore read_term o.list o.rising earlier;
  }
    where
      earlier : (a b : ℕ) → a ∈ o.list → b ∈ o.list → a < b → TermBefore (read_term a) (read_term b)
      earlier a b i j h =
          let x = code_of i in
          let y = code_of j in
          let l : term_code x.term < term_code y.term = rw (← x.is, ← y.is) h in
          rw (code_read x, code_read y) (code-before x.term y.term (code-within x) (code-within y) l)

  pub terms-of : TermsOf q terms_of
  terms-of = record { all = enumerated; few = omega (arith, terms-listed-few q.body terms_of enumerated, terms-most q.body (λ g i. (terms-few known g (within.fit g i)).1), within.few) }
