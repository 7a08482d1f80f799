-- A completion from the first source subgoal on says the same as one value for each shared variable and for each use's own.
use mathlib.Core.Bool.{cond}
use mathlib.Core.Path.{◌≡◌, refl, ap, sym, ◌∙◌, fun_ext}
use mathlib.Core.List.{List, [], ◌∷◌}
use Prim.Native.Nat.{ℕ, zero, suc, ◌+◌, ◌-◌, ◌<◌, ◌≤◌}
use native.Mathlib.Omega.{arith}
use native.Mathlib.Decide.{ℕ_discrete, dec_lt}
use lib.ListN.{length, get_or}
use lib.Dec.{ltb}
use borrow.Author.Tests.{lt-ltb, le-ltb, eq-eqb, ne_eqb}
use Rattle.task.specs.Task.{Task, goals, targets, last_of, Agrees, Linked, Completes, done, put}
use Rattle.task.specs.Mapped.{use_of, Lands, Mapped}
use Rattle.task.specs.Completion.{Completion}

module _ (p : Task) where
  same-use : (i : ℕ) → last_of p i ≡ 0 → use_of p (suc i) ≡ use_of p i
  unfolding use_of
  same-use i e = rw (eq-eqb (last_of p i) 0 e)

  next-use : (i : ℕ) → (last_of p i ≡ 0 → ⊥) → use_of p (suc i) ≡ suc (use_of p i)
  unfolding use_of
  next-use i f = rw (ne_eqb (last_of p i) 0 f)

  first-use : use_of p 0 ≡ 0
  unfolding use_of
  first-use = refl

  later : (i j : ℕ) → use_of p i ≤ use_of p (i + j)
  later i zero = let e : i + 0 ≡ i = omega arith in rw e (omega arith)
  later i (suc j) =
      let e : i + suc j ≡ suc (i + j) = omega arith in
      rw e (elim (ℕ_discrete (last_of p (i + j)) 0) [
        | yes z ↦ omega (arith, later i j, same-use (i + j) z)
        | no z ↦ omega (arith, later i j, next-use (i + j) z)
      ])

  -- one value for each goes along the chain
  chain : (n at : ℕ) (val : ℕ → ℕ → ℕ) (l : List ℕ) → ((u w x : ℕ) → x < 32 → val u x ≡ val w x) → length l ≡ n → ((i : ℕ) → i < n → Lands p val (at + i) (get_or l i 0)) → Completes p n at (val (use_of p at)) l
  chain zero at val [] s e f = done
  chain zero at val (k ∷ l) s e f = absurd (omega arith)
  chain (suc n) at val [] s e f = absurd (omega arith)
  chain (suc n) at val (k ∷ l) s e f =
      let z : at + 0 ≡ at = omega arith in
      let h : Lands p val at k = rw z at (f 0 (omega arith)) in
      put {w = val (use_of p (suc at))} h.within h.agrees
      (record { stays = λ y x. rw (same-use at y); shared = λ x i. s (use_of p (suc at)) (use_of p at) x i })
      (chain n (suc at) val l s (omega arith) (λ i j. let q : suc at + i ≡ at + suc i = omega arith in rw q (f (suc i) (omega arith))))

  -- what a chain from the source subgoal at on gives
  record From (n at : ℕ) (v : ℕ → ℕ) (l : List ℕ) : Type 0 where
    val : ℕ → ℕ → ℕ
    now : val (use_of p at) ≡ v
    shared : (u x : ℕ) → x < 32 → val u x ≡ v x
    long : length l ≡ n
    lands : (i : ℕ) → i < n → Lands p val (at + i) (get_or l i 0)

  -- up to the use u the values are v, after it as f says
  glue : ℕ → (ℕ → ℕ) → (ℕ → ℕ → ℕ) → ℕ → ℕ → ℕ
  glue u v f y x = cond (ltb u y) (f y x) (v x)

  glue-before : (u : ℕ) (v : ℕ → ℕ) (f : ℕ → ℕ → ℕ) (y : ℕ) → y ≤ u → glue u v f y ≡ v
  unfolding glue
  glue-before u v f y h = fun_ext (λ x. rw (le-ltb u y h))

  glue-after : (u : ℕ) (v : ℕ → ℕ) (f : ℕ → ℕ → ℕ) (y : ℕ) → u < y → glue u v f y ≡ f y
  unfolding glue
  glue-after u v f y h = fun_ext (λ x. rw (lt-ltb u y h))

  module _ (n at k : ℕ) (v w : ℕ → ℕ) (l : List ℕ) (h : k < targets p) (a : Agrees p v at k) (c : Linked p at v w) (f : From n (suc at) w l) where
    front : (val : ℕ → ℕ → ℕ) → val (use_of p at) ≡ v → ((j : ℕ) → j < n → Lands p val (suc at + j) (get_or l j 0)) → (i : ℕ) → i < suc n → Lands p val (at + i) (get_or (k ∷ l) i 0)
    front val e g zero i = let z : at + 0 ≡ at = omega arith in rw z (record { within = h; agrees = rw e a })
    front val e g (suc j) i = let z : at + suc j ≡ suc at + j = omega arith in rw z (g j (omega arith))

    stay : last_of p at ≡ 0 → From (suc n) at v (k ∷ l)
    stay z =
        let e : f.val (use_of p at) ≡ v = ap f.val (sym (same-use at z)) ∙ f.now ∙ fun_ext (c.stays z) in
        record { val = f.val; now = e; shared = λ u x i. f.shared u x i ∙ c.shared x i; long = ap suc f.long; lands = front f.val e f.lands }

    start : (last_of p at ≡ 0 → ⊥) → From (suc n) at v (k ∷ l)
    start z =
        let e : glue (use_of p at) v f.val (use_of p at) ≡ v = glue-before (use_of p at) v f.val (use_of p at) (omega arith) in
        record {
          val = glue (use_of p at) v f.val;
          now = e;
          shared = λ u x i. elim (dec_lt (use_of p at) u) [
            | yes o ↦ ap (λ y. y x) (glue-after (use_of p at) v f.val u o) ∙ f.shared u x i ∙ c.shared x i
            | no o ↦ ap (λ y. y x) (glue-before (use_of p at) v f.val u (omega arith))
          ];
          long = ap suc f.long;
          lands = front (glue (use_of p at) v f.val) e (λ j o. record { within = (f.lands j o).within; agrees = rw (glue-after (use_of p at) v f.val (use_of p (suc at + j)) (omega (arith, later (suc at) j, next-use at z))) (f.lands j o).agrees });
        }

    on : From (suc n) at v (k ∷ l)
    on = elim (ℕ_discrete (last_of p at) 0) [ yes z ↦ stay z | no z ↦ start z ]

  unchain : (n at : ℕ) (v : ℕ → ℕ) (l : List ℕ) → Completes p n at v l → From n at v l
  unchain zero at v l done = record { val = λ u. v; now = refl; shared = λ u x h. refl; long = refl; lands = λ i h. absurd (omega arith) }
  unchain (suc n) at v l (put h a c s) = on n at _ v _ _ h a c (unchain n (suc at) _ _ s)

  pub completion-mapped : (b l : List ℕ) → Completion p 0 b l → Mapped p b l
  completion-mapped b l c =
      let e : goals p - 0 ≡ goals p = omega arith in
      let f = unchain (goals p) 0 c.val l (rw e at c.completes) in
      record {
        val = f.val;
        shared = λ u w x h. f.shared u x h ∙ sym (f.shared w x h);
        given = λ x n. ap (λ y. y x) (ap f.val (sym first-use) ∙ f.now) ∙ c.extends x n;
        long = f.long;
        lands = λ i h. let z : 0 + i ≡ i = omega arith in rw z at (f.lands i h);
      }

  pub mapped-completion : (b l : List ℕ) → Mapped p b l → Completion p 0 b l
  mapped-completion b l m =
      let e : goals p - 0 ≡ goals p = omega arith in
      let c = chain (goals p) 0 m.val l m.shared m.long (λ i h. let z : 0 + i ≡ i = omega arith in rw z (m.lands i h)) in
      record { val = m.val 0; extends = m.given; completes = rw e (rw first-use at c) }
