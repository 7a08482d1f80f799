-- The places that the search finds are those of the summary's rows, and come in the rows' order.
use mathlib.Core.Path.{◌≡◌, refl, sym, ap, ◌∙◌, subst}
use mathlib.Core.Logic.{⊎_elim}
use mathlib.Core.Option.{some}
use mathlib.Core.List.Memᴰ
use mathlib.Core.List.{List, [], ◌∷◌, ◌++◌, map, head-eq_of_cons-eq}
use Prim.Native.Nat.{ℕ}
use lib.ListN.{length, length-map}
use Rattle.spec.specs.Words.{◌∈◌, Term, con, Subgoal, Rule, Fits, Listed, becomes, each, Yields}
use Rattle.task.specs.Task.{Task}
use Rattle.summary_rows.specs.RowTask.{alone, placed, onto, TaskOf}
use Rattle.summary_rows.specs.RowPlaces.{RowPlaces}
use Rattle.summary_rows.proofs.TaskLaws.{fit-other, row-sent}
use Rattle.summary_rows.proofs.HeadLaws.{variable}
use Rattle.summary_rows.proofs.AtTerms.{Stand, stand-long, stand-split, stand-join, stand_of, front-place, stand-front}
use Rattle.spec.proofs.Lists.Gathered.{map-append, map-map}

module _ (v q : Rule ℕ) (ts : List (Term ℕ)) (p : Task) (h : ℕ) (w : TaskOf v q ts p h) where
  -- a head's places stand for terms
  heads-out : (σ : Term ℕ → Term ℕ) (l : List ℕ) (hd : List (Term ℕ)) → Stand (onto ts q) l (map (each σ) (map alone hd)) → Stand ts l (map σ hd)
  heads-out σ [] [] s = tt
  heads-out σ [] (t ∷ hd) s = absurd s
  heads-out σ (k ∷ l) [] s = absurd s
  heads-out σ (k ∷ l) (t ∷ hd) s = (
    ⊎_elim
        (λ a. a.1 ∙ ap some (head-eq_of_cons-eq (ap (λ (g : Subgoal (Term ℕ)). g.terms) a.2)))
        (λ m. absurd (fit-other w.arities w.relations (alone (σ t)) (w.question.fit (alone (σ t)) m) refl))
        (front-place q.body ts k (alone (σ t)) s.0),
    heads-out σ l hd s.1,
  )

  -- a body's subgoals become subgoals of the question
  bodies-out : (σ : Term ℕ → Term ℕ) (l : List ℕ) (gs : List (Subgoal (Term ℕ))) → Stand (onto ts q) l (map (each σ) gs) → ((g : Subgoal (Term ℕ)) → g ∈ gs → Fits w.arities g) → (g : Subgoal (Term ℕ)) → g ∈ gs → each σ g ∈ q.body
  bodies-out σ l [] s fit g m = absurd (Memᴰ.not-nil m)
  bodies-out σ [] (k ∷ gs) s fit g m = absurd s
  bodies-out σ (i ∷ l) (k ∷ gs) s fit g (Memᴰ.head e) = ⊎_elim
      (λ a. absurd (fit-other w.arities w.relations k (fit k (Memᴰ.head refl)) (ap (λ (x : Subgoal (Term ℕ)). x.relation) (sym a.2))))
      (λ m. subst (λ x. each σ x ∈ q.body) (sym e) m)
      (front-place q.body ts i (each σ k) s.0)
  bodies-out σ (i ∷ l) (k ∷ gs) s fit g (Memᴰ.tail m) = bodies-out σ l gs s.1 (λ x j. fit x (Memᴰ.tail j)) g m

  heads-long : (σ : Term ℕ → Term ℕ) → length (map (each σ) (map alone v.head)) ≡ h
  heads-long σ = length-map (map alone v.head) (each σ) ∙ length-map v.head alone ∙ w.long

  pub row_out : (js : List ℕ) → RowPlaces p h js → (row : List (Term ℕ)) × Stand ts js row × Yields con v (Listed q.body) row
  row_out js y =
      let sent = (row-sent v q ts p h w (js ++ y.rest)).0 y.mapped in
      let σ : Term ℕ → Term ℕ = becomes con sent.value in
      let s = stand-split (onto ts q) js y.rest (map (each σ) (map alone v.head)) (map (each σ) v.body) (y.long ∙ sym (heads-long σ))
      (subst (Stand (onto ts q) (js ++ y.rest)) (map-append (each σ) (map alone v.head) v.body) sent.sends) in
      (map σ v.head, heads-out σ js v.head s.0, record { value = sent.value; gives = refl; holds = bodies-out σ y.rest v.body s.1 w.summary.fit })

  -- a row's terms are terms of the question: each is what a variable of the body becomes
  row-terms : (σ : ℕ → Term ℕ) → ((g : Subgoal (Term ℕ)) → g ∈ v.body → each (becomes con σ) g ∈ q.body) → (t : Term ℕ) → t ∈ map (becomes con σ) v.head → t ∈ ts
  row-terms σ holds t m =
      let a = Memᴰ.of_map (becomes con σ) v.head m in
      let x = variable v.head w.plain a.0 a.1 in
      let g = w.safe x.0 (subst (λ u. u ∈ v.head) x.1 a.1) in
      w.terms.all.complete t (each (becomes con σ) g.0, holds g.0 g.1, Memᴰ.cast (sym a.2 ∙ ap (becomes con σ) x.1) (Memᴰ.map (becomes con σ) g.2))

  pub row_in : (row : List (Term ℕ)) → Yields con v (Listed q.body) row → (js : List ℕ) × RowPlaces p h js × Stand ts js row
  row_in row y =
      let σ : Term ℕ → Term ℕ = becomes con y.value in
      let js = stand_of ts (map σ v.head) (row-terms y.value y.holds) in
      let rest = stand_of (onto ts q) (map (each σ) v.body) (λ g m. let a = Memᴰ.of_map (each σ) v.body m in Memᴰ.cast (sym a.2) (Memᴰ.append_right (map alone ts) (y.holds a.0 a.1))) in
      let front : Stand (onto ts q) js.0 (map (each σ) (map alone v.head)) =
      subst (Stand (onto ts q) js.0) (map-map σ alone v.head ∙ sym (map-map alone (each σ) v.head)) (stand-front q.body ts js.0 (map σ v.head) js.1) in
      let sends : Stand (onto ts q) (js.0 ++ rest.0) (map (each σ) (placed v)) =
      subst (Stand (onto ts q) (js.0 ++ rest.0)) (sym (map-append (each σ) (map alone v.head) v.body)) (stand-join (onto ts q) js.0 rest.0 (map (each σ) (map alone v.head)) (map (each σ) v.body) front rest.1) in (
        js.0,
        record {
          rest = rest.0;
          long = stand-long ts js.0 (map σ v.head) js.1 ∙ length-map v.head σ ∙ w.long;
          mapped = (row-sent v q ts p h w (js.0 ++ rest.0)).1 record { value = y.value; sends = sends; extends = λ x n. absurd (n refl) };
        },
        subst (Stand ts js.0) y.gives js.1,
      )
