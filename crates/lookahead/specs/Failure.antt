-- What a failure of the search tells.
use Rattle.std.specs.Prelude.{true, ◌≡◌, List, ℕ, ◌-◌, get_or}
use Rattle.bits.specs.Sets.{Has}
use Rattle.task.specs.Task.{Task, goals, Completes}
use Rattle.lookahead.specs.Taking.{Affords, Open}
use Rattle.lookahead.specs.declared.reasons.Reasons.{Reasons}
use Rattle.lookahead.specs.declared.reasons.Rows.{Rows}

-- v gives the bound slots among those of the set their codes
abbrev pub AgreesOn : List ℕ → ℕ → (ℕ → ℕ) → Type 0
AgreesOn b set v = (x : ℕ) → Has set x → (get_or b x 0 ≡ 0 → ⊥) → v x ≡ get_or b x 0

-- A failure tells its reasons, a set of slots: no v that agrees with b on them has a completion that the rows allow. If it was not short of rows, not even with more left.
pub record Failed (p : Task) (at : ℕ) (b : List ℕ) (rows : Rows) (why : Reasons) : Type 0 where
  pub never : (v : ℕ → ℕ) (l : List ℕ) → AgreesOn b why.slots v → Completes p (goals p - at) at v l → Open p rows.used rows.may l → (why.short ≡ true → Affords p rows.used rows.may rows.left l) → ⊥
