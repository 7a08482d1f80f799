-- Why a search is seen to be in vain: a source subgoal of the same use that no row has a target for, or too many that want a row not yet in use.
use mathlib.Core.Bool.{true, false}
use mathlib.Core.Path.{◌≡◌, refl, sym, subst, ◌∙◌, fun_ext}
use mathlib.Core.Logic.{◌⊎◌, inl, inr}
use mathlib.Core.List.Memᴰ
use mathlib.Core.List.{List, ◌∷◌}
use Prim.Native.Nat.{ℕ, zero, suc, ◌+◌, ◌-◌, ◌*◌, ◌<◌, ◌≤◌}
use native.Mathlib.Omega.{arith}
use native.Mathlib.Nat.{mul-le-mul_right}
use native.Mathlib.Decide.{dec_lt}
use lib.ListN.{length, get_or, get_or-replicate, length-replicate, get_or-eq_default}
use lib.Bits.{bit_or}
use Rattle.spec.specs.Words.{◌∈◌}
use Rattle.bits.specs.Sets.{Has, Meets}
use Rattle.bits.proofs.Laws.{has-none, or-either}
use Rattle.task.specs.Task.{Task, Sized, goals, targets, source_term, width_of, last_of, row_of, value_of, Agrees, Completes, done, put}
use Rattle.task.specs.Mapped.{InRows}
use Rattle.task.specs.Terms.{stood}
use Rattle.task.proofs.Slots.{value-code, stood-code, stood-value}
use Rattle.lookahead.specs.Taking.{Affords, Open}
use Rattle.lookahead.specs.Failure.{AgreesOn, Failed}
use Rattle.lookahead.specs.Outlook.{UseEnd, SuitsTarget, Offers, SlotsOf, member_of, Steady, Wanting, Most}
use Rattle.lookahead.specs.declared.reasons.Rows.{Rows}
use Rattle.lookahead.specs.declared.Wants.{Wants}
use Rattle.lookahead.proofs.Taken.{affords-rows}
use Rattle.lookahead.proofs.Total.{total, total-more, total-most}
use Rattle.lookahead.proofs.Looking.{member-small, no_wants}

-- where the source subgoal i lands: a target that it agrees with
record Landing (p : Task) (v : ℕ → ℕ) (l : List ℕ) (i : ℕ) : Type 0 where
  k : ℕ
  inside : k ∈ l
  within : k < targets p
  agrees : Agrees p v i k

-- up to the end of the use all are served by the same values
landing : (p : Task) (n at i : ℕ) (v : ℕ → ℕ) (l : List ℕ) → i < n → ((j : ℕ) → at ≤ j → j < at + i → last_of p j ≡ 0) → Completes p n at v l → Landing p v l (at + i)
landing p n at i v l h s done = absurd (omega arith)
landing p (suc n) at zero v (k ∷ l) h s (put w a c r) = let z : at + 0 ≡ at = omega arith in rw z (record { k = k; inside = Memᴰ.head refl; within = w; agrees = a })
landing p (suc n) at (suc i) v (k ∷ l) h s (put {w = w} q a c r) =
    let d = landing p n (suc at) i w l (omega arith) (λ j x y. s j (omega arith) (omega arith)) r in
    let z : at + suc i ≡ suc at + i = omega arith in
    rw z (record { k = d.k; inside = Memᴰ.tail d.inside; within = d.within; agrees = subst (λ f. Agrees p f (suc at + i) d.k) (fun_ext (c.stays (s at (omega arith) (omega arith)))) d.agrees })

-- what values that agree with the bindings on its slots send it to, it may still become
suits : (p : Task) (b : List ℕ) (i k slots : ℕ) (v : ℕ → ℕ) → AgreesOn b slots v → ((a : ℕ) → a < width_of p i → source_term p i a < 64 → Has slots (source_term p i a)) → Agrees p v i k → SuitsTarget p b i k
suits p b i k slots v on has g = record { relation = g.relation; terms = λ a h n. sym (same a h n) ∙ g.terms a h }
  where
    same : (a : ℕ) → a < width_of p i → (stood b (source_term p i a) ≡ 0 → ⊥) → value_of v (source_term p i a) ≡ stood b (source_term p i a)
    same a h n = elim (dec_lt (source_term p i a) 64) [
      | yes x ↦ stood-value b v (source_term p i a) (on (source_term p i a) (has a h x)) n
      | no x ↦ let y : 64 ≤ source_term p i a = omega arith in value-code v (source_term p i a) y ∙ sym (stood-code b (source_term p i a) y)
    ]

-- so many, of those before i, want rows that are not in use: whatever rows are taken serve them
pub record Wanted (p : Task) (at : ℕ) (b : List ℕ) (rows : Rows) (w : Wants) (i : ℕ) : Type 0 where
  pub few : w.many + at ≤ i
  pub small : w.many ≤ 96
  pub long : length w.served ≡ 64
  pub below : (x : ℕ) → get_or w.served x 0 ≤ w.many
  pub taken : (v : ℕ → ℕ) (l : List ℕ) → AgreesOn b w.slots v → Completes p (goals p - at) at v l → (r : InRows p rows.used rows.may rows.left l) → w.many ≤ total w.served r.taken

module _ (p : Task) (at : ℕ) (b : List ℕ) (rows : Rows) where
  pub wanted-start : Wanted p at b rows no_wants at
  wanted-start =
      record {
        few = omega arith;
        small = omega arith;
        long = length-replicate {A = ℕ} 64 0;
        below = λ x. elim (dec_lt x 64) [
          | yes h ↦ omega (arith, get_or-replicate {A = ℕ} 64 x 0 0 h)
          | no h ↦ omega (arith, none x (omega arith))
        ];
        taken = λ v l on c r. omega arith;
      }
    where
      none : (x : ℕ) → 64 ≤ x → get_or no_wants.served x 0 ≡ 0
      none x h = get_or-eq_default no_wants.served 0 {n = x} (omega (arith, length-replicate {A = ℕ} 64 0))

  pub wanted-next : (w : Wants) (i : ℕ) → Wanted p at b rows w i → Wanted p at b rows w (i + 1)
  wanted-next w i q = record { few = omega (arith, q.few); small = q.small; long = q.long; below = q.below; taken = q.taken }

module _ (p : Task) (z : Sized p) (at end : ℕ) (u : UseEnd p.lasts at end) where
  pub there : (i : ℕ) → at ≤ i → i < end → i < goals p
  there i g h = omega (arith, ((u.exactly i).0 (g, h)).there, z.lasts)

module _ (p : Task) (z : Sized p) (at end : ℕ) (u : UseEnd p.lasts at end) (b : List ℕ) (rows : Rows) where
  -- the target that a completion sends it to
  record SentTo (i : ℕ) (l : List ℕ) : Type 0 where
    k : ℕ
    inside : k ∈ l
    within : k < targets p
    fits : SuitsTarget p b i k

  sent : (i : ℕ) → at ≤ i → i < end → (set slots : ℕ) → SlotsOf p i set slots → (v : ℕ → ℕ) (l : List ℕ) → AgreesOn b slots v → Completes p (goals p - at) at v l → SentTo i l
  sent i h j set slots s v l on c =
      let e : at + (i - at) ≡ i = omega arith in
      let d = rw e at (landing p (goals p - at) at (i - at) v l (omega (arith, there p z at end u i h j)) (λ y m n. ((u.exactly i).0 (h, j)).one y m (omega arith)) c) in
      record { k = d.k; inside = d.inside; within = d.within; fits = suits p b i d.k slots v on (λ a k l. (s.exactly _).1 (inr (record { a = a; counts = k; is = refl; slot = l }))) d.agrees }

  -- no row has a target for it
  pub vain-none : (i : ℕ) → at ≤ i → i < end → (slots : ℕ) → SlotsOf p i 0 slots → Offers p b rows.used (bit_or rows.used rows.may) i 0 → Failed p at b rows record { slots = slots; short = false }
  vain-none i h j slots s f = record { never = never }
    where
      never : (v : ℕ → ℕ) (l : List ℕ) → AgreesOn b slots v → Completes p (goals p - at) at v l → Open p rows.used rows.may l → (false ≡ true → Affords p rows.used rows.may rows.left l) → ⊥
      never v l on c o d =
          let k = sent i h j 0 slots s v l on c in
          has-none (row_of p k.k) (f.each (λ x m. absurd (has-none x m)) k.k k.within (or-either rows.used rows.may (row_of p k.k) (o k.k k.inside)) k.fits)

  pub wanted-steady : (w : Wants) (i : ℕ) → at ≤ i → i < end → Wanted p at b rows w i → Steady w
  wanted-steady w i g h q = record { few = omega (arith, q.few, there p z at end u i g h, z.few); long = q.long; below = q.below }

  -- one more wants a row, and none in use has a target for it
  module _ (w : Wants) (i : ℕ) (h : at ≤ i) (j : i < end) (q : Wanted p at b rows w i) (with slots : ℕ) (s : SlotsOf p i w.slots slots) (f : Offers p b rows.used (bit_or rows.used rows.may) i with) (m : Meets with rows.used false) (more : Wants) (g : Wanting w with slots more) where
    grows : (x : ℕ) → get_or w.served x 0 ≤ get_or more.served x 0
    grows x = elim (dec_lt x 64) [
      | yes y ↦ omega (arith, g.served x y)
      | no y ↦ let e : get_or w.served x 0 ≡ 0 = get_or-eq_default w.served 0 (omega (arith, q.long)) in omega arith
    ]

    one : (x : ℕ) → x < 64 → Has with x → get_or w.served x 0 < get_or more.served x 0
    unfolding Has member_of
    one x y e = omega (arith, g.served x y, e)

    serves : (v : ℕ → ℕ) (l : List ℕ) → AgreesOn b more.slots v → Completes p (goals p - at) at v l → (r : InRows p rows.used rows.may rows.left l) → total w.served r.taken < total more.served r.taken
    serves v l on c r =
        let k = sent i h j w.slots slots s v l (rw g.slots at on) c in
        go k (r.each k.k k.inside)
      where
        member : (k : SentTo i l) → Has rows.used (row_of p k.k) ⊎ Has rows.may (row_of p k.k) → Has with (row_of p k.k)
        member k y = f.each (m.exactly.0 refl) k.k k.within (or-either rows.used rows.may (row_of p k.k) y) k.fits

        go : (k : SentTo i l) → Has rows.used (row_of p k.k) ⊎ (row_of p k.k ∈ r.taken) → total w.served r.taken < total more.served r.taken
        go k (inl y) = absurd (m.exactly.0 refl (row_of p k.k) (member k (inl y)) y)
        go k (inr y) = total-more w.served more.served grows r.taken (row_of p k.k) y (one (row_of p k.k) (z.rows k.k) (member k (inr (r.allowed (row_of p k.k) y))))

    pub wanted-more : Wanted p at b rows more (i + 1)
    wanted-more =
        record {
          few = omega (arith, q.few, g.many);
          small = omega (arith, g.many, (wanted-steady w i h j q).few);
          long = g.long;
          below = λ x. elim (dec_lt x 64) [
            | yes y ↦ omega (arith, g.served x y, g.many, q.below x, member-small with x)
            | no y ↦ let e : get_or more.served x 0 ≡ 0 = get_or-eq_default more.served 0 (omega (arith, g.long)) in omega arith
          ];
          taken = λ v l on c r. omega (arith, g.many, serves v l on c r, q.taken v l (λ x e. (rw g.slots at on) x ((s.exactly x).1 (inl e))) c r);
        }

module _ (p : Task) (at : ℕ) (b : List ℕ) (rows : Rows) where
  -- more want rows than those left can serve
  pub vain-many : (w : Wants) (i : ℕ) → Wanted p at b rows w i → (m : ℕ) → Most w.served m → rows.left * m < w.many → Failed p at b rows record { slots = w.slots; short = true }
  vain-many w i q m y h = record { never = never }
    where
      each : (x : ℕ) → get_or w.served x 0 ≤ m
      each x = elim (dec_lt x 64) [
        | yes n ↦ y.each x n
        | no n ↦ let e : get_or w.served x 0 ≡ 0 = get_or-eq_default w.served 0 (omega (arith, q.long)) in omega arith
      ]

      never : (v : ℕ → ℕ) (l : List ℕ) → AgreesOn b w.slots v → Completes p (goals p - at) at v l → Open p rows.used rows.may l → (true ≡ true → Affords p rows.used rows.may rows.left l) → ⊥
      never v l on c o d =
          let r = affords-rows p rows.may rows.used rows.left l (d refl) in
          omega (arith, q.taken v l on c r, total-most w.served m each r.taken, mul-le-mul_right m r.few)
