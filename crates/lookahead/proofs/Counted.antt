-- What has been seen of the source subgoals before i, exactly.
use mathlib.Core.Bool.{true, false, true≢false}
use mathlib.Core.Path.{◌≡◌, refl, sym, subst}
use mathlib.Core.Logic.{◌⊎◌, inl, inr, ⊎_elim, ◌↔◌}
use mathlib.Core.List.{List}
use Prim.Native.Nat.{ℕ, suc, ◌+◌, ◌*◌, ◌<◌, ◌≤◌}
use native.Mathlib.Omega.{arith}
use native.Mathlib.Decide.{ℕ_discrete}
use native.Mathlib.Nat.{mul-le-mul_left}
use lib.ListN.{get_or, get_or-replicate}
use lib.Bits.{bit_or}
use Rattle.bits.specs.Sets.{Has, Meets}
use Rattle.std.specs.Prelude.{Ok, Err}
use Rattle.bits.proofs.Laws.{has-none, or-either, or_cases, same-members}
use Rattle.task.specs.Task.{Task, Sized, goals}
use Rattle.lookahead.specs.declared.reasons.Rows.{Rows}
use Rattle.lookahead.specs.Outlook.{SameUse, UseEnd, HasTarget, Offers, SlotsOf, member_of, Wanting, Most}
use Rattle.lookahead.specs.Seen.{CountBelow, counted, passed, NoRowFor, WantsRow, ServedBy, WantedSlot, Seen, alone, together, fair}
use Rattle.lookahead.specs.declared.Wants.{Wants}
use Rattle.lookahead.proofs.Counting.{count-once, count_none, count-to}
use Rattle.lookahead.proofs.Looking.{no_wants}

pub record WantsCounted (p : Task) (at : ℕ) (b : List ℕ) (rows : Rows) (w : Wants) (i : ℕ) : Type 0 where
  pub hopeful : (j : ℕ) → j < i → NoRowFor p at b rows j → ⊥
  pub many : CountBelow (WantsRow p at b rows) i w.many
  pub served : (x : ℕ) → x < 64 → CountBelow (ServedBy p at b rows x) i (get_or w.served x 0)
  pub slots : (x : ℕ) → Has w.slots x ↔ ((s : WantedSlot p at b rows x) × (s.i < i))

module _ (p : Task) (at : ℕ) (b : List ℕ) (rows : Rows) where
  pub counted_start : WantsCounted p at b rows no_wants at
  counted_start =
      record {
        hopeful = λ j h s. absurd (omega (arith, s.same.from));
        many = count_none _ at (λ j h s. absurd (omega (arith, s.same.from)));
        served = λ x h. rw (get_or-replicate {A = ℕ} 64 x 0 0 h) (count_none _ at (λ j l s. absurd (omega (arith, s.wants.same.from))));
        slots = λ x. (λ h. absurd (has-none x h), λ s. absurd (omega (arith, s.1, s.0.wants.same.from)));
      }

  module _ (i with : ℕ) (f : Offers p b rows.used (bit_or rows.used rows.may) i with) where
    open_row : (x : ℕ) → Has with x → Has rows.used x ⊎ Has rows.may x
    open_row x h = or_cases rows.used rows.may x (f.only x h).0

    -- a row has a target for it exactly if some row is offered
    pub hope : (with ≡ 0 → ⊥) → NoRowFor p at b rows i → ⊥
    hope n s = n (same-members with 0 (λ x. (λ h. absurd (s.never x (open_row x h) (f.only x h).1), λ h. absurd (has-none x h))))

    offered : ((x : ℕ) → Has with x → Has rows.used x → ⊥) → (x : ℕ) → Has rows.used x ⊎ Has rows.may x → HasTarget p b i x → Has with x
    offered m x o t = subst (Has with) t.row (f.each m t.k t.within (rw t.row (or-either rows.used rows.may x o)) t.fits)

    pub despair : SameUse p.lasts at i → with ≡ 0 → NoRowFor p at b rows i
    despair u e = record { same = u; never = λ x o t. has-none x (subst (λ s. Has s x) e (offered (λ y h. absurd (has-none y (subst (λ s. Has s y) e h))) x o t)) }

    -- where a row in use is offered it wants no other
    pub contented : Meets with rows.used true → WantsRow p at b rows i → ⊥
    contented m s = true≢false (m.exactly.1 (λ x h u. s.unserved x u (f.only x h).1))

    module _ (u : SameUse p.lasts at i) (m : Meets with rows.used false) where
      pub wanting : WantsRow p at b rows i
      wanting = record { same = u; unserved = λ x h t. m.exactly.0 refl x (offered (m.exactly.0 refl) x (inl h) t) h }

      pub serves : (x : ℕ) → Has with x → ServedBy p at b rows x i
      serves x h = record { wants = wanting; allowed = ⊎_elim (λ o. absurd (m.exactly.0 refl x h o)) (λ o. o) (open_row x h); has = (f.only x h).1 }

      pub served-by : (x : ℕ) → ServedBy p at b rows x i → Has with x
      served-by x s = offered (m.exactly.0 refl) x (inr s.allowed) s.has

  module _ (w : Wants) (i : ℕ) (q : WantsCounted p at b rows w i) where
    further : (f : NoRowFor p at b rows i → ⊥) (j : ℕ) → j < suc i → NoRowFor p at b rows j → ⊥
    further f j h s = elim (ℕ_discrete j i) [ yes e ↦ f (rw e at s) | no e ↦ q.hopeful j (omega arith) s ]

    -- one that wants no row
    pub counted_next : (NoRowFor p at b rows i → ⊥) → (WantsRow p at b rows i → ⊥) → WantsCounted p at b rows w (i + 1)
    counted_next f n =
        let e : i + 1 ≡ suc i = omega arith in
        rw e record {
          hopeful = further f;
          many = passed n q.many;
          served = λ x h. passed (λ s. n s.wants) (q.served x h);
          slots = λ x. (
            λ h. let s = (q.slots x).0 h in (s.0, omega (arith, s.1)),
            λ s. elim (ℕ_discrete s.0.i i) [ yes e ↦ absurd (n (rw e at s.0.wants)) | no e ↦ (q.slots x).1 (s.0, omega (arith, s.1)) ],
          );
        }

    -- one that does
    module _ (f : NoRowFor p at b rows i → ⊥) (n : WantsRow p at b rows i) (with : ℕ) (is : (x : ℕ) → Has with x ↔ ServedBy p at b rows x i) (slots : ℕ) (s : SlotsOf p i w.slots slots) (more : Wants) (g : Wanting w with slots more) where
      by : (x : ℕ) → x < 64 → CountBelow (ServedBy p at b rows x) (suc i) (get_or more.served x 0)
      unfolding Has member_of
      by x h = elim (ℕ_discrete (member_of with x) 1) [
        | yes e ↦ let k : get_or more.served x 0 ≡ suc (get_or w.served x 0) = omega (arith, g.served x h) in rw k (counted ((is x).0 e) (q.served x h))
        | no e ↦ let k : get_or more.served x 0 ≡ get_or w.served x 0 = omega (arith, g.served x h) in rw k (passed (λ c. e ((is x).1 c)) (q.served x h))
      ]

      old : (x : ℕ) → (t : WantedSlot p at b rows x) → t.i < i → Has slots x
      old x t h = (s.exactly x).1 (inl ((q.slots x).1 (t, h)))

      pub counted-more : WantsCounted p at b rows more (i + 1)
      counted-more =
          let e : i + 1 ≡ suc i = omega arith in
          rw e record {
            hopeful = further f;
            many = rw g.many (counted n q.many);
            served = by;
            slots = λ x. rw g.slots (
              λ h. ⊎_elim (λ o. let t = (q.slots x).0 o in (t.0, omega (arith, t.1))) (λ o. (record { i = i; wants = n; slot = o }, omega arith)) ((s.exactly x).0 h),
              λ t. elim (ℕ_discrete t.0.i i) [ yes e ↦ (s.exactly x).1 (inr (rw e at t.0.slot)) | no e ↦ old x t.0 (omega (arith, t.1)) ],
            );
          }

module _ (p : Task) (z : Sized p) (at : ℕ) (b : List ℕ) (rows : Rows) (taken : rows.may ≡ 0 → ⊥) (w : Wants) (end i : ℕ) (u : UseEnd p.lasts at end) (h : end ≤ i) (q : WantsCounted p at b rows w i) where
  past : (j : ℕ) → i ≤ j → SameUse p.lasts at j → ⊥
  past j l s = omega (arith, ((u.exactly j).1 s).1)

  gone : (j : ℕ) → goals p ≤ j → SameUse p.lasts at j → ⊥
  gone j l s = omega (arith, z.lasts, s.there)

  none-hopeless : (j : ℕ) → NoRowFor p at b rows j → ⊥
  none-hopeless j s = q.hopeful j (omega (arith, ((u.exactly j).1 s.same).1)) s

  want : CountBelow (WantsRow p at b rows) (goals p) w.many
  want = count-to _ i (goals p) w.many (λ j l s. past j l s.same) (λ j l s. gone j l s.same) q.many

  serve : (x : ℕ) → x < 64 → CountBelow (ServedBy p at b rows x) (goals p) (get_or w.served x 0)
  serve x l = count-to _ i (goals p) (get_or w.served x 0) (λ j m s. past j m s.wants.same) (λ j m s. gone j m s.wants.same) (q.served x l)

  pub seen-together : (m : ℕ) → Most w.served m → rows.left * m < w.many → Seen p at b rows (Err record { slots = w.slots; short = true })
  seen-together m y l =
      together taken w.slots none-hopeless
      record {
        many = w.many;
        want = want;
        each = λ x n k c. let e : n ≡ get_or w.served x 0 = count-once _ (goals p) n (get_or w.served x 0) c (serve x k) in rw e (omega (arith, l, mul-le-mul_left rows.left (y.each x k)));
      }
      (λ x. (λ h. ((q.slots x).0 h).0, λ s. (q.slots x).1 (s, omega (arith, ((u.exactly s.i).1 s.wants.same).1))))

  pub seen-fair : (m : ℕ) → Most w.served m → (rows.left * m < w.many → ⊥) → Seen p at b rows (Ok tt)
  seen-fair m y l =
      fair taken none-hopeless
      (λ t. let x = y.one in l (omega (arith, count-once _ (goals p) t.many w.many t.want want, t.each x.0 m x.1 (rw (sym x.2) (serve x.0 x.1)))))

pub seen-alone : (p : Task) (at : ℕ) (b : List ℕ) (rows : Rows) (taken : rows.may ≡ 0 → ⊥) (w : Wants) (i : ℕ) → WantsCounted p at b rows w i → NoRowFor p at b rows i → (slots : ℕ) → SlotsOf p i 0 slots → Seen p at b rows (Err record { slots = slots; short = false })
seen-alone p at b rows taken w i q s slots o =
    alone taken i slots s q.hopeful (λ x. (λ h. ⊎_elim (λ n. absurd (has-none x n)) (λ y. y) ((o.exactly x).0 h), λ y. (o.exactly x).1 (inr y)))
