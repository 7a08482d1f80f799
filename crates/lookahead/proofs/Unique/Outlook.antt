-- Two outlooks that meet the promise are the same.
use mathlib.Core.Bool.{Bool}
use mathlib.Core.Path.{◌≡◌, refl, ap}
use mathlib.Core.Logic.{◌↔◌}
use mathlib.Core.List.{List}
use Prim.Native.Nat.{ℕ, ◌<◌}
use Rattle.std.specs.Prelude.{Result, Err, ⊤}
use native.Mathlib.Omega.{arith}
use native.Mathlib.Decide.{dec_lt}
use Rattle.bits.specs.Sets.{Has}
use Rattle.bits.proofs.Laws.{same-members}
use Rattle.task.specs.Task.{Task}
use Rattle.lookahead.specs.declared.reasons.Reasons.{Reasons}
use Rattle.lookahead.specs.declared.reasons.Rows.{Rows}
use Rattle.lookahead.specs.Seen.{NoRowFor, Seen, closed, alone, together, fair, LookSays}

module _ (p : Task) (at : ℕ) (b : List ℕ) (rows : Rows) where
  abbrev failing : ℕ → Bool → Result ⊤ Reasons
  failing slots short = Err record { slots = slots; short = short }

  -- the reasons are those of the same subgoals
  blamed : {P : ℕ → Type 0} (s t : ℕ) (short : Bool) → ((x : ℕ) → Has s x ↔ P x) → ((x : ℕ) → Has t x ↔ P x) → failing s short ≡ failing t short
  blamed s t short f g = ap (λ n. failing n short) (same-members s t (λ x. (λ h. (g x).1 ((f x).0 h), λ h. (f x).1 ((g x).0 h))))

  first : (i j : ℕ) → NoRowFor p at b rows i → ((k : ℕ) → k < i → NoRowFor p at b rows k → ⊥) → NoRowFor p at b rows j → ((k : ℕ) → k < j → NoRowFor p at b rows k → ⊥) → j ≡ i
  first i j h f k g = elim (dec_lt i j) [
    | yes l ↦ absurd (g i l h)
    | no l ↦ elim (dec_lt j i) [ yes m ↦ absurd (f j m k) | no m ↦ omega arith ]
  ]

  pub seen-once : (r s : Result ⊤ Reasons) → Seen p at b rows r → Seen p at b rows s → r ≡ s
  seen-once r s (closed z) (closed y) = refl
  seen-once r s (closed z) (alone n i o h f e) = absurd (n z)
  seen-once r s (closed z) (together n o f t e) = absurd (n z)
  seen-once r s (closed z) (fair n f t) = refl
  seen-once r s (alone n i o h f e) (closed z) = absurd (n z)
  seen-once r s (alone n i o h f e) (alone m j k g d c) = blamed o k _ e (rw (first i j h f g d) at c)
  seen-once r s (alone n i o h f e) (together m k d t c) = absurd (d i h)
  seen-once r s (alone n i o h f e) (fair m d t) = absurd (d i h)
  seen-once r s (together n o f t e) (closed z) = absurd (n z)
  seen-once r s (together n o f t e) (alone m j k g d c) = absurd (f j g)
  seen-once r s (together n o f t e) (together m k d y c) = blamed o k _ e c
  seen-once r s (together n o f t e) (fair m d y) = absurd (y t)
  seen-once r s (fair n f t) (closed z) = refl
  seen-once r s (fair n f t) (alone m j k g d c) = absurd (f j g)
  seen-once r s (fair n f t) (together m k d y c) = absurd (t y)
  seen-once r s (fair n f t) (fair m d y) = refl

  pub outlook-once : (r s : Result ⊤ Reasons) → LookSays p at b rows r → LookSays p at b rows s → r ≡ s
  outlook-once r s f g = seen-once r s f.seen g.seen
