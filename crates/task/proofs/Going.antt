-- The pass: the places from the source subgoal i on complete what is bound there exactly if all of them are those of a mapping.
use mathlib.Core.Bool.{Bool, true, false, false≢true}
use mathlib.Core.Path.{◌≡◌, refl, ap, sym, ◌∙◌}
use mathlib.Core.List.{List, [], ◌∷◌}
use Prim.Native.Nat.{ℕ, suc, ◌+◌, ◌-◌, ◌<◌, ◌≤◌}
use native.Mathlib.Omega.{arith}
use native.Mathlib.Numerals.{add-one}
use lib.ListN.{length, get_or, take, drop}
use lib.Seq.{slice, slice_empty, slice-cons}
use Rattle.task.specs.Task.{Task, goals, targets, Agrees, Linked, Completes, done}
use Rattle.task.specs.Mapped.{Mapped}
use Rattle.task.specs.Completion.{Completion}
use Rattle.task.specs.Follows.{Follows}
use Rattle.task.specs.Leads.{Leads}
use Rattle.task.proofs.Onward.{step, stepped}
use Rattle.task.proofs.Chain.{completion-mapped, mapped-completion}

pub record PlacesFollowed (p : Task) (b ks : List ℕ) (i : ℕ) (g : List ℕ) : Type 0 where
  pub far : i ≤ goals p
  pub to : Mapped p b (take (goals p) ks) → Completion p i g (slice i (goals p) ks)
  pub back : Completion p i g (slice i (goals p) ks) → Mapped p b (take (goals p) ks)

module _ (p : Task) (b ks : List ℕ) where
  pub going_start : PlacesFollowed p b ks 0 b
  going_start = record { far = omega arith; to = mapped-completion p b (take (goals p) ks); back = completion-mapped p b (take (goals p) ks) }

  module _ (i : ℕ) (g : List ℕ) (c : PlacesFollowed p b ks i g) where
    -- nothing is left: some values have what is bound there
    pub going_end : goals p ≤ i → Follows p b ks true
    going_end h = record { exactly = ((λ e. c.back (rw empty (record { val = λ x. get_or g x 0; extends = λ x f. refl; completes = rw left done }))), λ m. refl) }
      where
        over : i ≡ goals p
        over = omega (arith, c.far)

        empty : slice i (goals p) ks ≡ []
        empty = ap (λ j. slice j (goals p) ks) over ∙ slice_empty (goals p) ks

        left : goals p - i ≡ 0
        left = omega arith

    module _ (long : length ks ≡ 96) (few : goals p ≤ 96) (more : i < goals p) where
      cons : slice i (goals p) ks ≡ get_or ks i 0 ∷ slice (suc i) (goals p) ks
      cons = slice-cons i (goals p) ks 0 more (omega arith)

      -- every completion goes over the place given, and on
      record GoesOver (v : ℕ → ℕ) : Type 0 where
        w : ℕ → ℕ
        within : get_or ks i 0 < targets p
        agrees : Agrees p v i (get_or ks i 0)
        linked : Linked p i v w
        rest : Completes p (goals p - suc i) (suc i) w (slice (suc i) (goals p) ks)

      goes : (v : ℕ → ℕ) → Completes p (goals p - i) i v (slice i (goals p) ks) → GoesOver v
      goes v q =
          let s = step p i more v (slice i (goals p) ks) q in
          let here : s.k ≡ get_or ks i 0 = sym (ap (λ l. get_or l 0 0) (sym cons ∙ s.is)) in
          let on : s.ks ≡ slice (suc i) (goals p) ks = sym (ap (drop 1) (sym cons ∙ s.is)) in
          record { w = s.w; within = rw here at s.within; agrees = rw here at s.agrees; linked = s.linked; rest = rw on at s.rest }

      module _ (r : Bool) (h : List ℕ) (s : Leads p g i (get_or ks i 0) r h) where
        pub going-never : r ≡ false → Follows p b ks false
        going-never n = record { exactly = ((λ e. absurd (false≢true e)), λ m. let d = c.to m in let o = goes d.val d.completes in absurd (s.never n o.within d.val d.extends o.agrees)) }

        pub going_more : r ≡ true → PlacesFollowed p b ks (i + 1) h
        going_more y = rw (add-one i) (record { far = omega arith; to = to; back = back })
          where
            to : Mapped p b (take (goals p) ks) → Completion p (suc i) h (slice (suc i) (goals p) ks)
            to m =
                let d = c.to m in
                let o = goes d.val d.completes in
                record { val = o.w; extends = (s.passed y).after d.val o.w d.extends o.agrees o.linked; completes = o.rest }

            back : Completion p (suc i) h (slice (suc i) (goals p) ks) → Mapped p b (take (goals p) ks)
            back d =
                let u = (s.passed y).over d.val d.extends in
                c.back (rw cons (record { val = u.0; extends = u.1; completes = stepped p i more (get_or ks i 0) u.0 d.val (slice (suc i) (goals p) ks) (s.passed y).within u.2 u.3 d.completes }))
