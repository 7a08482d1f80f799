-- The task of a summary's rows fits the search, and its codes fit each other.
use mathlib.Core.Path.{◌≡◌, refl, sym, ap, ◌∙◌, subst}
use mathlib.Core.Logic.{◌⊎◌, inl, inr, ⊎_elim, ◌↔◌}
use mathlib.Core.List.Memᴰ
use mathlib.Core.List.{List, [], ◌++◌, map}
use Prim.Native.Nat.{ℕ, ◌+◌, ◌≤◌}
use native.Mathlib.Omega.{arith}
use lib.ListN.{length, get_or, replicate, length-append, length-map, length-replicate}
use Rattle.spec.specs.Words.{◌∈◌, Term, con, Subgoal, Rule, Fits}
use Rattle.spec.specs.RuleLayout.{TermWithin}
use Rattle.spec.specs.BookLayout.{Arities}
use Rattle.spec.proofs.Lists.At.{get_or-in}
use Rattle.spec.proofs.Lists.Zeros.{zero-at}
use Rattle.task.specs.Task.{Task}
use Rattle.task.specs.Mapped.{Mapped}
use Rattle.search_meaning.specs.Coded.{TermIn, SmallTask, Sent}
use Rattle.search_meaning.specs.Codings.{term_coding, RuleSource}
use Rattle.search_meaning.proofs.Read.{read-term, term-solid}
use Rattle.search_meaning.proofs.Slots.{slots-sent}
use Rattle.summary_rows.specs.RowTask.{head_relation, alone, placed, onto, TaskOf}

-- What a relation's arity says of a subgoal.
module _ {A : Type 0} (arities : List ℕ) (all : Arities arities) (g : Subgoal A) (fit : Fits arities g) where
  fit-room : length g.terms ≤ 8
  fit-room = omega (arith, fit.long, (all.range (get_or arities g.relation 0) (get_or-in 0 arities g.relation fit.known)).1)

  pub fit-other : g.relation ≡ head_relation → ⊥
  fit-other e = omega (arith, fit.known, all.few)

-- a subgoal of the list is a term alone, or one of the body
pub parts : (ts : List (Term ℕ)) (body : List (Subgoal (Term ℕ))) (g : Subgoal (Term ℕ)) → g ∈ (map alone ts ++ body) → ((t : Term ℕ) × (t ∈ ts) × (alone t ≡ g)) ⊎ (g ∈ body)
parts ts body g m = ⊎_elim (λ i. inl (Memᴰ.of_map alone ts i)) inr (Memᴰ.append_cases (map alone ts) m)

module _ (v q : Rule ℕ) (ts : List (Term ℕ)) (p : Task) (h : ℕ) (w : TaskOf v q ts p h) where
  pub room : (g : Subgoal (Term ℕ)) → g ∈ placed v → length g.terms ≤ 8
  room g m = ⊎_elim (λ a. rw (ap (λ (k : Subgoal (Term ℕ)). length k.terms) (sym a.2)) (omega arith)) (λ i. fit-room w.arities w.relations g (w.summary.fit g i)) (parts v.head v.body g m)

  -- the terms of a list of terms alone and a body
  in_parts : (us : List (Term ℕ)) (body : List (Subgoal (Term ℕ))) (P : Term ℕ → Type 0) → ((t : Term ℕ) → t ∈ us → P t) → ((t : Term ℕ) → TermIn t body → P t) → (t : Term ℕ) → TermIn t (map alone us ++ body) → P t
  in_parts us body P first then t i = ⊎_elim
      (λ a. subst P (sym (Memᴰ.eq_of_singleton (subst (λ (k : Subgoal (Term ℕ)). t ∈ k.terms) (sym a.2) i.2))) (first a.0 a.1))
      (λ j. then t (i.0, j, i.2))
      (parts us body i.0 i.1)

  source-within : (t : Term ℕ) → TermIn t (placed v) → TermWithin t
  source-within = in_parts v.head v.body TermWithin w.summary.head (λ t i. w.summary.body i.0 i.1 t i.2)

  question-within : (t : Term ℕ) → TermIn t q.body → TermWithin t
  question-within t i = w.question.body i.0 i.1 t i.2

  target-within : (t : Term ℕ) → TermIn t (onto ts q) → TermWithin t
  target-within = in_parts ts q.body TermWithin (λ t m. question-within t (w.terms.all.sound t m)) question-within

  pub alike : (g k : Subgoal (Term ℕ)) → g ∈ placed v → k ∈ onto ts q → g.relation ≡ k.relation → length g.terms ≡ length k.terms
  alike g k m n e = ⊎_elim
      (λ a. ⊎_elim (λ b. ap (λ (x : Subgoal (Term ℕ)). length x.terms) (sym a.2) ∙ ap (λ (x : Subgoal (Term ℕ)). length x.terms) b.2)
      (λ j. absurd (fit-other w.arities w.relations k (w.question.fit k j) (sym e ∙ ap (λ (x : Subgoal (Term ℕ)). x.relation) (sym a.2))))
      (parts ts q.body k n))
      (λ i. ⊎_elim (λ b. absurd (fit-other w.arities w.relations g (w.summary.fit g i) (e ∙ ap (λ (x : Subgoal (Term ℕ)). x.relation) (sym b.2))))
      (λ j. (w.summary.fit g i).long ∙ ap (λ r. get_or w.arities r 0) e ∙ sym (w.question.fit k j).long)
      (parts ts q.body k n))
      (parts v.head v.body g m)

  source : RuleSource term_coding (placed v) (onto ts q) (replicate (length (onto ts q)) 0) []
  source = record {
    room = room;
    alike = alike;
    rows = length-replicate {A = ℕ} (length (onto ts q)) 0;
    source = source-within;
    target = λ t i. read-term t (target-within t i);
    constants = λ k l. (refl, read-term (con k) l);
    low = λ x n. absurd (n refl);
    given = λ x n. absurd (n refl);
  }

  -- The places that the task asks for are those of the values over terms.
  pub row-sent : (l : List ℕ) → Mapped p [] l ↔ Sent term_coding (λ x. x) (placed v) (onto ts q) [] l
  row-sent l = subst (λ t. Mapped t [] l ↔ Sent term_coding (λ x. x) (placed v) (onto ts q) [] l) (sym w.codes) (slots-sent term_coding (placed v) (replicate (length (placed v)) 0) (onto ts q) (replicate (length (onto ts q)) 0) [] source l)

  pub placed-long : length (placed v) ≡ h + length v.body
  placed-long = length-append (map alone v.head) v.body ∙ ap (λ n. n + length v.body) (length-map v.head alone ∙ w.long)

  pub onto-long : length (onto ts q) ≡ length ts + length q.body
  onto-long = length-append (map alone ts) q.body ∙ ap (λ n. n + length q.body) (length-map ts alone)

  pub small : SmallTask term_coding (placed v) (replicate (length (placed v)) 0) (onto ts q) (replicate (length (onto ts q)) 0)
  small = record {
    few = omega (arith, placed-long, w.long, w.summary.short, w.summary.few);
    many = omega (arith, onto-long, w.terms.few, w.question.few);
    room = room;
    marked = length-replicate {A = ℕ} (length (placed v)) 0;
    rows = length-replicate {A = ℕ} (length (onto ts q)) 0;
    sets = λ k. omega (arith, zero-at (length (onto ts q)) k);
    solid = λ t i. term-solid t;
  }
