-- The places of the head in the task of a summary's rows: distinct slots, and each has a target where the body has its targets.
use mathlib.Core.Path.{◌≡◌, sym, ap, ◌∙◌, subst}
use mathlib.Core.Logic.{⊎_elim}
use mathlib.Core.List.Memᴰ
use mathlib.Core.List.{List, [], ◌∷◌, map}
use Prim.Native.Nat.{ℕ, zero, suc, ◌+◌, ◌*◌, ◌-◌, ◌<◌}
use native.Mathlib.Omega.{arith}
use lib.ListN.{length, get_or, replicate, length-map, length-replicate, get_or-append}
use lib.Seq.{get_or-append-add}
use Rattle.spec.specs.Words.{◌∈◌, Term, var, con, Subgoal, Rule, DistinctVariables}
use Rattle.spec.specs.RuleLayout.{TermWithin}
use Rattle.spec.proofs.Lists.At.{in-get_or, get_or-in, map_get}
use Rattle.spec.proofs.Lists.Zeros.{zero-at}
use Rattle.codes.specs.Code.{term_code, slot_code, codes_of}
use Rattle.task.specs.Task.{Task, goals, targets, source_term, width_of, value_of, Agrees, Completes}
use Rattle.search_meaning.specs.Codings.{slot_naming, term_coding}
use Rattle.search_meaning.proofs.AtCodes.{nothing, relation-at, term-at, width-at}
use Rattle.search_meaning.proofs.Sizes.{sized}
use Rattle.summary_rows.specs.RowTask.{head_relation, alone, placed, onto, row_task, TaskOf}
use Rattle.summary_rows.specs.RowPlaces.{head_term, HeadTask}
use Rattle.summary_rows.proofs.OneUse.{StandsAt, completes-stand}
use Rattle.summary_rows.proofs.Fixing.{term-only}
use Rattle.summary_rows.proofs.TaskLaws.{fit-other, parts, room, alike, placed-long, onto-long, small}

pub variable : (ts : List (Term ℕ)) → DistinctVariables ts → (t : Term ℕ) → t ∈ ts → (x : ℕ) × (t ≡ var x)
variable [] d t m = absurd (Memᴰ.not-nil m)
variable (var x ∷ ts) d t (Memᴰ.head e) = (x, e)
variable (var x ∷ ts) d t (Memᴰ.tail m) = variable ts d.1 t m
variable (con c ∷ ts) d t m = absurd d

distinct-at : (ts : List (Term ℕ)) → DistinctVariables ts → (i k : ℕ) → i < k → k < length ts → get_or ts i (con 0) ≡ get_or ts k (con 0) → ⊥
distinct-at [] d i k l m e = omega arith
distinct-at (con c ∷ ts) d i k l m e = d
distinct-at (var x ∷ ts) d i zero l m e = omega arith
distinct-at (var x ∷ ts) d zero (suc k) l m e = d.0 (Memᴰ.cast e (get_or-in (con 0) ts k (omega arith)))
distinct-at (var x ∷ ts) d (suc i) (suc k) l m e = distinct-at ts d.1 i k (omega arith) (omega arith) e

-- The codes of a subgoal that is a term alone.
module _ (f : Term ℕ → ℕ) (gs : List (Subgoal (Term ℕ))) (i : ℕ) (u : Term ℕ) (l : i < length gs) (is : get_or gs i nothing ≡ alone u) where
  alone-relation : get_or (codes_of f gs) (9 * i) 0 ≡ head_relation
  alone-relation = relation-at f gs i l ∙ ap (λ (g : Subgoal (Term ℕ)). g.relation) is

  pub alone-term : get_or (codes_of f gs) (9 * i + 1) 0 ≡ f u
  alone-term =
      let z : 9 * i + 1 ≡ 9 * i + 1 + 0 = omega arith in
      ap (λ n. get_or (codes_of f gs) n 0) z
      ∙ term-at f gs i 0 (con 0) l (omega arith) (omega (arith, ap (λ (g : Subgoal (Term ℕ)). length g.terms) is))
      ∙ ap (λ (g : Subgoal (Term ℕ)). f (get_or g.terms 0 (con 0))) is

module _ (v q : Rule ℕ) (ts : List (Term ℕ)) (p : Task) (h : ℕ) (w : TaskOf v q ts p h) where
  abbrev t : Task
  t = row_task v q ts

  abbrev head : ℕ → Term ℕ
  head i = get_or v.head i (con 0)

  goals-are : goals t ≡ length (placed v)
  goals-are = length-map (placed v) (λ g. length g.terms)

  targets-are : targets t ≡ length (onto ts q)
  targets-are = length-replicate {A = ℕ} (length (onto ts q)) 0

  long : length (placed v) ≡ h + length v.body
  long = placed-long v q ts p h w

  head_at : (i : ℕ) → i < h → get_or (placed v) i nothing ≡ alone (head i)
  head_at i l =
      get_or-append (map alone v.head) v.body nothing i (omega (arith, length-map v.head alone, w.long))
      ∙ map_get alone v.head i (con 0) nothing (omega (arith, w.long))

  head-term : (i : ℕ) → i < h → head_term t i ≡ slot_code (head i)
  head-term i l = alone-term slot_code (placed v) i (head i) (omega (arith, long)) (head_at i l)

  head_in : (i : ℕ) → i < h → head i ∈ v.head
  head_in i l = get_or-in (con 0) v.head i (omega (arith, w.long))

  named : (i : ℕ) → i < h → (x : ℕ) × (head i ≡ var x)
  named i l = variable v.head w.plain (head i) (head_in i l)

  head-slot : (i : ℕ) (l : i < h) → head_term t i ≡ (named i l).0
  head-slot i l = head-term i l ∙ ap slot_code (named i l).1

  slots : (i : ℕ) → i < h → head_term t i < 64
  slots i l = let low : (named i l).0 < 32 = subst TermWithin (named i l).1 (w.summary.head (head i) (head_in i l)) in omega (arith, head-slot i l)

  apart : (i k : ℕ) → i < k → k < h → head_term t i ≡ head_term t k → ⊥
  apart i k l m e =
      let o : i < h = omega arith in
      distinct-at v.head w.plain i k l (omega (arith, w.long)) ((named i o).1 ∙ ap var (sym (head-slot i o) ∙ e ∙ head-slot k m) ∙ sym (named k m).1)

  single : (i : ℕ) → i < h → width_of t i ≡ 1
  single i l = width-at (placed v) i ∙ ap (λ (g : Subgoal (Term ℕ)). length g.terms) (head_at i l)

  -- The variable of place i stands in a subgoal g of the body, which has become a subgoal d of the question: so its code is that of a term of the question.
  module _ (b : ℕ → ℕ) (l : List ℕ) (c : Completes t (goals t - h) h b l) (i : ℕ) (low : i < h) where
    abbrev x : ℕ
    x = (named i low).0

    body : (g : Subgoal (Term ℕ)) × (g ∈ v.body) × (var x ∈ g.terms)
    body = w.safe x (subst (λ u. u ∈ v.head) (named i low).1 (head_in i low))

    abbrev g : Subgoal (Term ℕ)
    g = body.0

    place : (m : ℕ) × (m < length v.body) × (get_or v.body m nothing ≡ g)
    place = in-get_or nothing v.body body.1

    term : (a : ℕ) × (a < length g.terms) × (get_or g.terms a (con 0) ≡ var x)
    term = in-get_or (con 0) g.terms body.2

    abbrev m : ℕ
    m = place.0

    abbrev a : ℕ
    a = term.0

    source-at : get_or (placed v) (h + m) nothing ≡ g
    source-at =
        let n : h + m ≡ length (map alone v.head) + m = omega (arith, length-map v.head alone, w.long) in
        ap (λ n. get_or (placed v) n nothing) n ∙ get_or-append-add (map alone v.head) v.body m nothing ∙ place.2

    source-long : h + m < length (placed v)
    source-long = omega (arith, long, place.1)

    room_at : a < 8
    room_at = omega (arith, term.1, room v q ts p h w g (Memᴰ.append_right (map alone v.head) body.1))

    stands : StandsAt t b (h + m) (get_or l m 0)
    stands = let s = completes-stand t (zero-at (length (placed v))) (goals t - h) h b l c in s.1 m (omega (arith, s.0, goals-are, long, place.1))

    within : get_or l m 0 < length (onto ts q)
    within = omega (arith, stands.within, targets-are)

    abbrev d : Subgoal (Term ℕ)
    d = get_or (onto ts q) (get_or l m 0) nothing

    target : d ∈ onto ts q
    target = get_or-in nothing (onto ts q) (get_or l m 0) within

    same : g.relation ≡ d.relation
    same = ap (λ (k : Subgoal (Term ℕ)). k.relation) (sym source-at) ∙ sym (relation-at slot_code (placed v) (h + m) source-long) ∙ sym stands.agrees.relation ∙ relation-at term_code (onto ts q) (get_or l m 0) within

    d-in : d ∈ q.body
    d-in = ⊎_elim (λ y. absurd (fit-other w.arities w.relations g (w.summary.fit g body.1) (same ∙ ap (λ (k : Subgoal (Term ℕ)). k.relation) (sym y.2)))) (λ y. y) (parts ts q.body d target)

    wide : a < length d.terms
    wide = omega (arith, term.1, alike v q ts p h w g d (Memᴰ.append_right (map alone v.head) body.1) target same)

    abbrev u : Term ℕ
    u = get_or d.terms a (con 0)

    -- on codes: the variable's slot has the code of u
    code : value_of b x ≡ term_code u
    code = ap (value_of b) (sym here) ∙ stands.agrees.terms a (omega (arith, width-at (placed v) (h + m), fits)) ∙ term-at term_code (onto ts q) (get_or l m 0) a (con 0) within room_at wide
      where
        fits : a < length (get_or (placed v) (h + m) nothing).terms
        fits = omega (arith, term.1, ap (λ (k : Subgoal (Term ℕ)). length k.terms) source-at)

        here : source_term t (h + m) a ≡ x
        here = term-at slot_code (placed v) (h + m) a (con 0) source-long room_at fits ∙ ap (λ (k : Subgoal (Term ℕ)). slot_code (get_or k.terms a (con 0))) source-at ∙ ap slot_code term.2

    known : (k : ℕ) × (k < length ts) × (get_or ts k (con 0) ≡ u)
    known = in-get_or (con 0) ts (w.terms.all.complete u (d, d-in, get_or-in (con 0) d.terms a wide))

    covered : (k : ℕ) × (k < targets t) × Agrees t b i k
    covered = (
      known.0,
      omega (arith, targets-are, past),
      term-only t i known.0 (single i low) b
          (alone-relation term_code (onto ts q) known.0 u past is ∙ sym (alone-relation slot_code (placed v) i (head i) (omega (arith, long)) (head_at i low)))
          (ap (value_of b) (head-slot i low) ∙ code ∙ sym (alone-term term_code (onto ts q) known.0 u past is)),
    )
      where
        past : known.0 < length (onto ts q)
        past = omega (arith, known.1, onto-long v q ts p h w)

        is : get_or (onto ts q) known.0 nothing ≡ alone u
        is = get_or-append (map alone ts) q.body nothing known.0 (omega (arith, known.1, length-map ts alone)) ∙ map_get alone ts known.0 (con 0) nothing known.1 ∙ ap alone known.2

  ready-here : HeadTask t h
  ready-here = record {
    sized = sized slot_naming term_coding (placed v) (replicate (length (placed v)) 0) (onto ts q) (replicate (length (onto ts q)) 0) (small v q ts p h w);
    one_use = zero-at (length (placed v));
    single = single;
    inside = omega (arith, goals-are, long);
    short = omega (arith, w.long, w.summary.short);
    slots = slots;
    apart = apart;
    safe = λ b l c i low. ∣ covered b l c i low ∣₁;
  }

  pub row-ready : HeadTask p h
  row-ready = subst (λ r. HeadTask r h) (sym w.codes) ready-here
