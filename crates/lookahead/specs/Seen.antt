-- What is seen of a source subgoal and the others of its use, before it is placed.
use Rattle.std.specs.Prelude.{true, false, ◌≡◌, ◌⊎◌, ◌↔◌, List, ℕ, suc, ◌*◌, ◌<◌, Result, Ok, Err, IfErr, ⊤}
use Rattle.spec.specs.Table.{most_rows}
use Rattle.bits.specs.Sets.{Has}
use Rattle.task.specs.Task.{Task, goals}
use Rattle.lookahead.specs.declared.reasons.Reasons.{Reasons}
use Rattle.lookahead.specs.declared.reasons.Rows.{Rows}
use Rattle.lookahead.specs.Failure.{Failed}
use Rattle.lookahead.specs.Outlook.{SameUse, HasTarget, SlotOf}

-- n of the numbers below m are such
pub data CountBelow (P : ℕ → Type 0) : ℕ → ℕ → Type 0 where
  none : CountBelow P 0 0
  counted : {m n : ℕ} → P m → CountBelow P m n → CountBelow P (suc m) (suc n)
  passed : {m n : ℕ} → (P m → ⊥) → CountBelow P m n → CountBelow P (suc m) n

-- no row that is in use or may be taken has a target for the source subgoal i
pub record NoRowFor (p : Task) (at : ℕ) (b : List ℕ) (rows : Rows) (i : ℕ) : Type 0 where
  pub same : SameUse p.lasts at i
  pub never : (x : ℕ) → Has rows.used x ⊎ Has rows.may x → HasTarget p b i x → ⊥

-- the source subgoal i wants a row to be taken: none in use has a target for it
pub record WantsRow (p : Task) (at : ℕ) (b : List ℕ) (rows : Rows) (i : ℕ) : Type 0 where
  pub same : SameUse p.lasts at i
  pub unserved : (x : ℕ) → Has rows.used x → HasTarget p b i x → ⊥

-- .. and the row x, which may be taken, has one
pub record ServedBy (p : Task) (at : ℕ) (b : List ℕ) (rows : Rows) (x i : ℕ) : Type 0 where
  pub wants : WantsRow p at b rows i
  pub allowed : Has rows.may x
  pub has : HasTarget p b i x

-- More want a row than those left could serve, if each served as many as any one row does.
pub record TooManyWant (p : Task) (at : ℕ) (b : List ℕ) (rows : Rows) : Type 0 where
  pub many : ℕ
  pub want : CountBelow (WantsRow p at b rows) (goals p) many
  pub each : (x n : ℕ) → x < most_rows → CountBelow (ServedBy p at b rows x) (goals p) n → rows.left * n < many

-- x is a slot of a source subgoal that wants a row
pub record WantedSlot (p : Task) (at : ℕ) (b : List ℕ) (rows : Rows) (x : ℕ) : Type 0 where
  pub i : ℕ
  pub wants : WantsRow p at b rows i
  pub slot : SlotOf p i x

-- Err: it is seen to be in vain, for these reasons
pub data Seen (p : Task) (at : ℕ) (b : List ℕ) (rows : Rows) : Result ⊤ Reasons → Type 0 where
  -- where no row may be taken nothing is looked at
  closed : rows.may ≡ 0 → Seen p at b rows (Ok tt)
  -- the first without hope; its slots are to blame
  alone : (rows.may ≡ 0 → ⊥) → (i slots : ℕ) → NoRowFor p at b rows i → ((j : ℕ) → j < i → NoRowFor p at b rows j → ⊥) → ((x : ℕ) → Has slots x ↔ SlotOf p i x) → Seen p at b rows (Err record { slots = slots; short = false })
  -- none is without hope, but they are too many together; the slots of all that want a row are to blame
  together : (rows.may ≡ 0 → ⊥) → (slots : ℕ) → ((i : ℕ) → NoRowFor p at b rows i → ⊥) → TooManyWant p at b rows → ((x : ℕ) → Has slots x ↔ WantedSlot p at b rows x) → Seen p at b rows (Err record { slots = slots; short = true })
  fair : (rows.may ≡ 0 → ⊥) → ((i : ℕ) → NoRowFor p at b rows i → ⊥) → (TooManyWant p at b rows → ⊥) → Seen p at b rows (Ok tt)

pub record LookSays (p : Task) (at : ℕ) (b : List ℕ) (rows : Rows) (r : Result ⊤ Reasons) : Type 0 where
  pub seen : Seen p at b rows r
  -- what is seen to be in vain fails, for the reasons told
  pub vain : IfErr r (Failed p at b rows)
