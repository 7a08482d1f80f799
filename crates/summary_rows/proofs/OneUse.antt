-- In a task of one use the same values serve all source subgoals, so a mapping is a value for each slot and a place for each subgoal.
use mathlib.Core.Path.{◌≡◌, refl, sym, ap, ◌∙◌, subst, fun_ext}
use mathlib.Core.Bool.{cond}
use mathlib.Core.List.{List, [], ◌∷◌, ◌++◌}
use Prim.Native.Nat.{ℕ, zero, suc, ◌+◌, ◌-◌, ◌<◌}
use native.Mathlib.Omega.{arith}
use native.Mathlib.Decide.{dec_lt}
use lib.ListN.{length, get_or, drop, length-append, length-drop, get_or-append}
use lib.Seq.{get_or-drop, get_or-append-add}
use lib.Dec.{eqb}
use Rattle.task.specs.Task.{Task, goals, targets, last_of, Agrees, Completes, done, put}
use Rattle.task.specs.Mapped.{use_of, Mapped}

-- under v the source subgoal i becomes the target k
pub record StandsAt (p : Task) (v : ℕ → ℕ) (i k : ℕ) : Type 0 where
  pub within : k < targets p
  pub agrees : Agrees p v i k

-- under v the source subgoals from at on become the targets l
abbrev pub StandFrom : Task → ℕ → (ℕ → ℕ) → List ℕ → Type 0
StandFrom p at v l = (i : ℕ) → i < length l → StandsAt p v (at + i) (get_or l i 0)

module _ (p : Task) (v : ℕ → ℕ) where
  pub stand-at : (l : List ℕ) → StandFrom p 0 v l → (i : ℕ) → i < length l → StandsAt p v i (get_or l i 0)
  stand-at l s i h = let e : 0 + i ≡ i = omega arith in rw e at (s i h)

  pub stand-drop : (j : ℕ) (l : List ℕ) → StandFrom p 0 v l → StandFrom p j v (drop j l)
  stand-drop j l s i h = rw (get_or-drop j l i 0) (stand-at l s (j + i) (omega (arith, length-drop j l)))

  pub stand-join : (a l : List ℕ) → ((i : ℕ) → i < length a → StandsAt p v i (get_or a i 0)) → StandFrom p (length a) v l → StandFrom p 0 v (a ++ l)
  stand-join a l s t i h = go (dec_lt i (length a))
    where
      go : Dec (i < length a) → StandsAt p v (0 + i) (get_or (a ++ l) i 0)
      go (yes o) = let e : 0 + i ≡ i = omega arith in rw (e, get_or-append a l 0 i o) (s i o)
      go (no o) =
          let e : 0 + i ≡ length a + (i - length a) = omega arith in
          let f : i ≡ length a + (i - length a) = omega arith in
          rw e (subst (λ n. StandsAt p v (length a + (i - length a)) (get_or (a ++ l) n 0)) (sym f) (rw (get_or-append-add a l (i - length a) 0) (t (i - length a) (omega (arith, length-append a l)))))

module _ (p : Task) (one_use : (i : ℕ) → last_of p i ≡ 0) where
  use-first : (i : ℕ) → use_of p i ≡ 0
  unfolding use_of
  use-first zero = refl
  use-first (suc i) = go (use-first i)
    where
      go : use_of p i ≡ 0 → cond (eqb (last_of p i) 0) (use_of p i) (suc (use_of p i)) ≡ 0
      go e = ap (λ n. cond (eqb n 0) (use_of p i) (suc (use_of p i))) (one_use i) ∙ e

  pub completes-stand : (n at : ℕ) (v : ℕ → ℕ) (l : List ℕ) → Completes p n at v l → (length l ≡ n) × StandFrom p at v l
  completes-stand zero at v l done = (refl, λ i h. absurd (omega arith))
  completes-stand (suc n) at v l (put {k = k} {w = w} {l = m} b a link c) = go (completes-stand n (suc at) w m c)
    where
      go : (length m ≡ n) × StandFrom p (suc at) w m → (suc (length m) ≡ suc n) × StandFrom p at v (k ∷ m)
      go r = (ap suc r.0, at_place)
        where
          at_place : StandFrom p at v (k ∷ m)
          at_place zero h = let e : at + 0 ≡ at = omega arith in rw e (record { within = b; agrees = a })
          at_place (suc i) h =
              let e : at + suc i ≡ suc at + i = omega arith in
              let s : w ≡ v = fun_ext (link.stays (one_use at)) in
              rw e (rw s at (r.1 i (omega arith)))

  pub stand-completes : (n at : ℕ) (v : ℕ → ℕ) (l : List ℕ) → length l ≡ n → StandFrom p at v l → Completes p n at v l
  stand-completes zero at v [] e s = done
  stand-completes zero at v (k ∷ l) e s = let z : ⊥ = omega arith in absurd z
  stand-completes (suc n) at v [] e s = let z : ⊥ = omega arith in absurd z
  stand-completes (suc n) at v (k ∷ l) e s =
      let here : StandsAt p v at k = (let q : at + 0 ≡ at = omega arith in rw q at (s 0 (omega arith))) in
      put {w = v} here.within here.agrees record { stays = λ z x. refl; shared = λ x h. refl }
      (stand-completes n (suc at) v l (omega arith) (λ i h. let q : at + suc i ≡ suc at + i = omega arith in rw q at (s (suc i) (omega arith))))

  pub mapped-stand : (l : List ℕ) → Mapped p [] l → (v : ℕ → ℕ) × (length l ≡ goals p) × StandFrom p 0 v l
  mapped-stand l m = (
    m.val 0,
    m.long,
    λ i h.
        let e : 0 + i ≡ i = omega arith in
        let o : i < goals p = omega (arith, m.long) in
        rw e record { within = (m.lands i o).within; agrees = subst (λ u. Agrees p (m.val u) i (get_or l i 0)) (use-first i) (m.lands i o).agrees },
  )

  pub stand-mapped : (v : ℕ → ℕ) (l : List ℕ) → length l ≡ goals p → StandFrom p 0 v l → Mapped p [] l
  stand-mapped v l e s = record {
    val = λ u. v;
    shared = λ u w x h. refl;
    given = λ x n. absurd (n refl);
    long = e;
    lands = λ i h. let z : 0 + i ≡ i = omega arith in let o : i < length l = omega arith in let w : StandsAt p v i (get_or l i 0) = (rw z at (s i o)) in record { within = w.within; agrees = w.agrees };
  }
