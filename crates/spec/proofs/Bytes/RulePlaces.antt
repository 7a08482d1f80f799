-- What stands where in the bytes of a rule: the counts, the head's terms, and each subgoal's relation and terms. So nobody above reads bytes.
use mathlib.Core.Path.{◌≡◌, refl, sym, ap, ◌∙◌}
use mathlib.Core.Option.{some}
use mathlib.Core.List.{List, [], ◌∷◌, ◌++◌, append_assoc}
use Prim.Native.Nat.{ℕ, zero, suc, ◌+◌, ◌*◌, ◌≤◌, ◌<◌}
use native.Mathlib.Omega.{arith}
use lib.ListN.{length, get_or, take, drop, length-append, length-drop}
use lib.Seq.{drop-drop, drop-append-add, get_or-drop}
use Rattle.spec.specs.Words.{Term, var, con, Subgoal, Rule}
use Rattle.spec.specs.Summaries.{place}
use Rattle.spec.specs.Numbers.{little, number_at}
use Rattle.spec.specs.RuleLayout.{term_bytes, terms_bytes, subgoal_bytes, subgoals_bytes, TermWithin, TermsWithin, Layout}
use Rattle.spec.proofs.Bytes.Standing.{tag_of, number_of, TermAt, TermsAt}
use Rattle.spec.proofs.Bytes.NumberLaws.{value-little}
use Rattle.spec.proofs.Lists.Places.{place-drop, place-less}
use Rattle.spec.proofs.Bytes.Sizes.{term-size, terms-size, rule-parts}
use Rattle.spec.proofs.Bytes.Starts.{start_of, start-next, start-within, start-end, drop-parts}
use Rattle.spec.proofs.Lists.Counted.{place_in}

-- Where subgoal j begins, and where the rule ends if there are j: two counts, the head's terms and the subgoals before it.
unfoldable pub goal_start : Rule ℕ → ℕ → ℕ
goal_start r j = start_of subgoal_bytes (2 + 5 * length r.head) r.body j

-- what stands at the front of what is left
at_front : (bytes : List ℕ) (at b : ℕ) (rest : List ℕ) → drop at bytes ≡ b ∷ rest → get_or bytes at 0 ≡ b
at_front bytes at b rest e = let none : at + 0 ≡ at = omega arith in ap (λ p. get_or bytes p 0) (sym none) ∙ sym (get_or-drop at bytes 0 0) ∙ ap (λ l. get_or l 0 0) e

module _ (bytes : List ℕ) (at : ℕ) (rest : List ℕ) where
  term-five : (t : Term ℕ) → take 5 (term_bytes t ++ rest) ≡ term_bytes t
  term-five (var v) = refl
  term-five (con c) = refl

  after_tag : (tag n : ℕ) → drop at bytes ≡ tag ∷ little 4 n ++ rest → n < 4294967296 → number_at 4 bytes (at + 1) ≡ n
  unfolding number_at
  after_tag tag n e h = rw (← drop-drop 1 at bytes, e) (value-little 4 n h)

  term-here : (t : Term ℕ) → drop at bytes ≡ term_bytes t ++ rest → TermWithin t → TermAt bytes at t
  term-here t e h = record {
    within = h;
    room = omega (arith, term-size t, length-append (term_bytes t) rest, length-drop at bytes, ap length e);
    five = ap (take 5) e ∙ term-five t;
    tag = tag t e;
    number = number t e h;
  }
    where
      tag : (t : Term ℕ) → drop at bytes ≡ term_bytes t ++ rest → get_or bytes at 0 ≡ tag_of t
      tag (var v) e = at_front bytes at 0 (little 4 v ++ rest) e
      tag (con c) e = at_front bytes at 1 (little 4 c ++ rest) e

      number : (t : Term ℕ) → drop at bytes ≡ term_bytes t ++ rest → TermWithin t → number_at 4 bytes (at + 1) ≡ number_of t
      number (var v) e h = after_tag 0 v e (omega arith)
      number (con c) e h = after_tag 1 c e h

-- five bytes for each term before it
past-term : (t : Term ℕ) (i : ℕ) (l : List ℕ) → drop (5 * suc i) (term_bytes t ++ l) ≡ drop (5 * i) l
past-term t i l =
    let five : 5 * suc i ≡ length (term_bytes t) + 5 * i = omega (arith, term-size t) in
    rw five (drop-append-add (term_bytes t) l (5 * i))

drop-terms : (ts : List (Term ℕ)) (rest : List ℕ) (i : ℕ) → i ≤ length ts → drop (5 * i) (terms_bytes ts ++ rest) ≡ terms_bytes (drop i ts) ++ rest
drop-terms ts rest zero h = refl
drop-terms [] rest (suc i) h = absurd (omega arith)
drop-terms (t ∷ ts) rest (suc i) h = rw (append_assoc (term_bytes t) (terms_bytes ts) rest, past-term t i) (drop-terms ts rest i (omega arith))

terms-here : (bytes : List ℕ) (at : ℕ) (ts : List (Term ℕ)) (rest : List ℕ) → drop at bytes ≡ terms_bytes ts ++ rest → TermsWithin ts → TermsAt bytes at ts
terms-here bytes at ts rest e within =
    record { term = λ i t p. term-here bytes (at + 5 * i) (terms_bytes (drop (suc i) ts) ++ rest) t (here i t p) (within t (place_in ts (suc i) p)) }
  where
    here : (i : ℕ) (t : Term ℕ) → place ts (suc i) ≡ some t → drop (at + 5 * i) bytes ≡ term_bytes t ++ (terms_bytes (drop (suc i) ts) ++ rest)
    here i t p =
        sym (drop-drop (5 * i) at bytes)
        ∙ ap (drop (5 * i)) e
        ∙ drop-terms ts rest i (let less = place-less ts i t p in omega arith)
        ∙ ap (λ l. terms_bytes l ++ rest) (place-drop ts i t p)
        ∙ append_assoc (term_bytes t) (terms_bytes (drop (suc i) ts)) rest

module _ {arities : List ℕ} {most : ℕ} {bytes : List ℕ} {r : Rule ℕ} (l : Layout arities most bytes r) where
  -- "one byte head length, one byte subgoal count"
  pub head-count : get_or bytes 0 0 ≡ length r.head
  head-count = rw (sym l.written)

  pub goal-count : get_or bytes 1 0 ≡ length r.body
  goal-count = rw (sym l.written)

  -- ".. the head's terms"
  pub head-terms : TermsAt bytes 2 r.head
  head-terms = terms-here bytes 2 r.head (subgoals_bytes r.body) (rw (sym l.written)) l.within.head

  -- ".. then each subgoal": the first after the head's terms, each where the one before it ends, the last at the end of the bytes
  pub first-start : goal_start r 0 ≡ 2 + 5 * length r.head
  unfolding goal_start
  first-start = refl

  pub next_start : (j : ℕ) (g : Subgoal (Term ℕ)) → place r.body (suc j) ≡ some g → goal_start r (suc j) ≡ goal_start r j + (1 + 5 * length g.terms)
  unfolding goal_start
  next_start j g p = omega (arith, start-next subgoal_bytes (2 + 5 * length r.head) r.body j g p, terms-size g.terms)

  pub last-start : goal_start r (length r.body) ≡ length bytes
  unfolding goal_start
  last-start = rw (sym l.written) (omega (arith, start-end subgoal_bytes (2 + 5 * length r.head) r.body, rule-parts r))

  pub start-bound : (j : ℕ) → goal_start r j ≤ length bytes
  unfolding goal_start
  start-bound j = rw (sym l.written) (omega (arith, start-within subgoal_bytes (2 + 5 * length r.head) r.body j, rule-parts r))

  module _ (j : ℕ) (g : Subgoal (Term ℕ)) (p : place r.body (suc j) ≡ some g) where
    -- "one byte relation number, its terms"
    goal-here : drop (goal_start r j) bytes ≡ g.relation ∷ terms_bytes g.terms ++ subgoals_bytes (drop (suc j) r.body)
    unfolding goal_start
    goal-here =
        rw (sym l.written)
        (drop-parts subgoal_bytes (length r.head ∷ length r.body ∷ terms_bytes r.head) (2 + 5 * length r.head) (omega (arith, terms-size r.head)) r.body j
        ∙ ap subgoals_bytes (place-drop r.body j g p))

    pub goal-relation : get_or bytes (goal_start r j) 0 ≡ g.relation
    goal-relation = at_front bytes (goal_start r j) g.relation (terms_bytes g.terms ++ subgoals_bytes (drop (suc j) r.body)) goal-here

    pub goal-terms : TermsAt bytes (goal_start r j + 1) g.terms
    goal-terms = terms-here bytes (goal_start r j + 1) g.terms (subgoals_bytes (drop (suc j) r.body)) (rw (← drop-drop 1 (goal_start r j) bytes, goal-here)) (l.within.body g (place_in r.body (suc j) p))
