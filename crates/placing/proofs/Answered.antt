-- The search's answers: found below, given up, or nothing left to place.
use mathlib.Core.Bool.{Bool, true, false, true≢false}
use mathlib.Core.Path.{◌≡◌, refl, ap, sym, ◌∙◌}
use mathlib.Core.Logic.{◌⊎◌, inl, inr}
use mathlib.Core.List.{List, [], ◌∷◌}
use Prim.Native.Nat.{ℕ, zero, suc, ◌+◌, ◌-◌, ◌<◌, ◌≤◌}
use native.Mathlib.Omega.{arith}
use native.Mathlib.Decide.{ℕ_discrete, dec_lt}
use native.Mathlib.Numerals.{add-one}
use lib.ListN.{get_or, set, replicate}
use Rattle.std.specs.Prelude.{Result}
use Rattle.spec.specs.Order.{ListBefore, First}
use Rattle.bits.specs.Sets.{Has, with}
use Rattle.task.specs.Task.{Task, goals, targets, target_relation, source_relation, width_of, last_of, row_of, Completes, done}
use Rattle.task.specs.Terms.{Opened}
use Rattle.task.proofs.Guess.{Guess}
use Rattle.task.proofs.Onward.{step, after, onward}
use Rattle.lookahead.specs.Taking.{Enters, left_after, Affords, Open}
use Rattle.lookahead.specs.Failure.{AgreesOn, Failed}
use Rattle.lookahead.specs.Steps.{RowEntered, Hopeless, entering, seeing}
use Rattle.lookahead.specs.declared.reasons.Reasons.{Reasons}
use Rattle.lookahead.specs.declared.reasons.Rows.{Rows}
use Rattle.lookahead.specs.declared.reasons.Entered.{Entered}
use Rattle.lookahead.proofs.Taken.{affords-free}
use Rattle.placing.specs.FirstPlaces.{laid, FirstLaid}
use Rattle.placing.specs.SearchAnswer.{Afforded, SearchSays}
use Rattle.placing.proofs.Open.{open-with, open-tail, affords-open}
use Rattle.placing.proofs.Laid.{laid_none, laid-put}
use Rattle.placing.proofs.ReasonsCarried.{carry}
use Rattle.placing.proofs.Refuted.{Refuted}

module _ (p : Task) (at : ℕ) (b : List ℕ) (rows : Rows) (more : at < goals p) where
  -- every target is passed over
  pub answer-none : (why : Reasons) (m : ℕ) → targets p ≤ m → Refuted p at b rows why m → Failed p at b rows why
  unfolding Refuted
  answer-none why m h ref = record { never = never }
    where
      never : (v : ℕ → ℕ) (l : List ℕ) → AgreesOn b why.slots v → Completes p (goals p - at) at v l → Open p rows.used rows.may l → (why.short ≡ true → Affords p rows.used rows.may rows.left l) → ⊥
      never v l a q o d =
          let s = step p at more v l q in
          ref s.k (omega (arith, s.within)) (record { v = v; w = s.w; l = s.ks; agrees_on = a; agrees = s.agrees; linked = s.linked; rest = s.rest; allowed = rw s.is at o; affords = λ y. rw s.is at (d y) })

  module _ (k : ℕ) (g h : List ℕ) (new : ℕ) (c : Guess p b at k (width_of p at) g new) (o : Opened (last_of p at) g h) where
    -- the jump: whatever the target, the rest fails for the same reasons
    pub answer-hopeless : (less : Reasons) → Failed p (suc at) h (entering rows (row_of p k)) less → (free : Bool) → (free ≡ true → Has rows.used (row_of p k)) → Hopeless (seeing less (last_of p at)) new free → Failed p at b rows (seeing less (last_of p at))
    answer-hopeless less f free u m = record { never = never }
      where
        -- the rows suffice no more than they did here, where the guess took none
        suffice : (j : ℕ) (l : List ℕ) → (free ≡ true) ⊎ (less.short ≡ false) → (less.short ≡ true → Affords p rows.used rows.may rows.left (j ∷ l)) → less.short ≡ true → Affords p (with rows.used (row_of p k)) rows.may (left_after rows.used rows.left (row_of p k)) l
        suffice j l (inl e) d y = affords-free p rows.may rows.used rows.left (row_of p k) j l (u e) (d y)
        suffice j l (inr e) d y = absurd (true≢false (sym y ∙ e))

        never : (v : ℕ → ℕ) (l : List ℕ) → AgreesOn b (seeing less (last_of p at)).slots v → Completes p (goals p - at) at v l → Open p rows.used rows.may l → (less.short ≡ true → Affords p rows.used rows.may rows.left l) → ⊥
        never v l a q i d =
            let s = step p at more v l q in
            f.never s.w s.ks
            (carry p at g h o less v s.w s.linked (λ x j y. elim (ℕ_discrete (get_or b x 0) 0) [
              | yes z ↦ absurd (m.apart x j (c.noted x y z))
              | no z ↦ a x j z ∙ sym (c.keeps x z)
            ]))
            s.rest (open-with p rows.used rows.may (row_of p k) s.ks (open-tail p rows.used rows.may s.k s.ks (rw s.is at i)))
            (suffice s.k s.ks m.rows (λ y. rw s.is at (d y)))

    -- found below: the first places
    module _ (why : Reasons) (i : k < targets p) (rel : target_relation p k ≡ source_relation p at) (e : Enters rows.used rows.may rows.left (row_of p k)) (ref : Refuted p at b rows why k) (l : List ℕ) (f : First (Afforded p (suc at) h (entering rows (row_of p k))) (ListBefore ◌<◌) l) where
      here : Afforded p at b rows (k ∷ l)
      here = record { completion = onward p at b k g h new c o more i rel l f.holds.completion; affords = (e, f.holds.affords) }

      Later : List ℕ → Type 0
      Later js = ((k ∷ l) ≡ js) ⊎ ListBefore ◌<◌ (k ∷ l) js

      same : (ks : List ℕ) → (l ≡ ks) ⊎ ListBefore ◌<◌ l ks → Later (k ∷ ks)
      unfolding Later
      same ks (inl q) = inl (ap (λ r. k ∷ r) q)
      same ks (inr q) = inr (inr (refl, q))

      least : (js : List ℕ) → Afforded p at b rows js → Later js
      unfolding Refuted Later
      least js a =
          let d = a.completion in
          let s = step p at more d.val js d.completes in
          let y : Affords p rows.used rows.may rows.left (s.k ∷ s.ks) = rw s.is at a.affords in
          rw s.is (elim (dec_lt k s.k) [
            | yes j ↦ inr (inl j)
            | no j ↦ elim (ℕ_discrete s.k k) [
              | yes z ↦ rw z (same s.ks (f.least s.ks (record {
                completion = record { val = s.w; extends = after p at b k g h new c o d.val s.w d.extends (rw z at s.agrees) s.linked; completes = s.rest };
                affords = rw z at y.1;
              })))
              | no z ↦ absurd (ref s.k (omega arith) (record { v = d.val; w = s.w; l = s.ks; agrees_on = λ x m. d.extends x; agrees = s.agrees; linked = s.linked; rest = s.rest; allowed = affords-open p rows.used rows.may rows.left (s.k ∷ s.ks) y; affords = λ m. y }))
            ]
          ])

      pub first-here : First (Afforded p at b rows) (ListBefore ◌<◌) (k ∷ l)
      unfolding Later
      first-here = record { holds = here; least = least }

      pub answer-found : (ks : List ℕ) → ks ≡ laid (suc at) l → FirstLaid (Afforded p at b rows) at (set ks at k)
      answer-found ks y = (k ∷ l, ap (λ r. set r at k) y ∙ laid-put at k l, first-here)

-- the answer below, in the codes of this subgoal
pub answer-below : (p : Task) (at : ℕ) (h : List ℕ) (rows : Rows) (k : ℕ) (e : Entered) → RowEntered rows (row_of p k) e → (r : Result (List ℕ) Reasons) → SearchSays p (at + 1) h e.rows r → SearchSays p (suc at) h (entering rows (row_of p k)) r
answer-below p at h rows k e n r a = rw (add-one at, n.after) at a

-- nothing is left to place
only_none : (p : Task) (at : ℕ) (v : ℕ → ℕ) (js : List ℕ) → Completes p zero at v js → [] ≡ js
only_none p at v js done = refl

pub answer-end : (p : Task) (at : ℕ) (b : List ℕ) (rows : Rows) → goals p ≤ at → at ≤ 96 → FirstLaid (Afforded p at b rows) at (replicate 96 0)
answer-end p at b rows h k = ([], laid_none at k, first)
  where
    over : goals p - at ≡ 0
    over = omega arith

    first : First (Afforded p at b rows) (ListBefore ◌<◌) []
    first =
        record {
          holds = record { completion = record { val = λ x. get_or b x 0; extends = λ x f. refl; completes = rw over done }; affords = tt };
          least = λ js a. inl (only_none p at a.completion.val js (rw over at a.completion.completes));
        }
