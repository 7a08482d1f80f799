-- From the search's answer to what is promised above it.
use mathlib.Core.Path.{refl}
use mathlib.Core.List.{List}
use Prim.Native.Nat.{ℕ}
use Rattle.std.specs.Prelude.{Option, Some, None, Result, Ok, Err, is_ok}
use Rattle.std.specs.Result.{result_ok}
use Rattle.spec.specs.Order.{First}
use Rattle.bits.proofs.Laws.{all-has}
use Rattle.task.specs.Task.{Task, Sized, row_of}
use Rattle.task.proofs.Chain.{completion-mapped, mapped-completion}
use Rattle.lookahead.specs.Taking.{Affords}
use Rattle.lookahead.specs.Steps.{rows_of}
use Rattle.lookahead.specs.Failure.{Failed}
use Rattle.lookahead.specs.declared.reasons.Reasons.{Reasons}
use Rattle.lookahead.specs.declared.reasons.Rows.{Rows}
use Rattle.lookahead.proofs.Taken.{rows-affords, affords-rows}
use Rattle.placing.specs.FirstPlaces.{FirstPlaces, Enough}
use Rattle.placing.specs.SearchAnswer.{Afforded, SearchSays, PlacesFrom}
use Rattle.placing.proofs.Open.{affords-open, affords-used}

-- the first of the one is the first of the other, where both say the same
first_alike : {A : Type 0} {P Q : A → Type 0} {Before : A → A → Type 0} → ((a : A) → P a → Q a) → ((a : A) → Q a → P a) → (a : A) → First P Before a → First Q Before a
first_alike to back a f = record { holds = to a f.holds; least = λ b h. f.least b (back b h) }

-- a failure leaves nothing that the rows allow
none-afforded : (p : Task) (at : ℕ) (b : List ℕ) (rows : Rows) (why : Reasons) → Failed p at b rows why → (l : List ℕ) → Afforded p at b rows l → ⊥
none-afforded p at b rows why f l c =
    let d = c.completion in
    f.never d.val l (λ x h. d.extends x) d.completes (affords-open p rows.used rows.may rows.left l c.affords) (λ s. c.affords)

-- with every row in use the rows allow everything
module _ (p : Task) (z : Sized p) (at : ℕ) (b : List ℕ) where
  allowed : (l : List ℕ) → Affords p 18446744073709551615 0 0 l
  allowed = affords-used p 18446744073709551615 0 0 (λ k. all-has (row_of p k) (z.rows k))

  pub answer-places : (r : Result (List ℕ) Reasons) → SearchSays p at b (rows_of 18446744073709551615 0 0) r → PlacesFrom p at b (result_ok r)
  answer-places (Ok ks) f = (f.0, f.1, first_alike (λ l c. c.completion) (λ l c. record { completion = c; affords = allowed l }) f.0 f.2)
  answer-places (Err why) f = λ l c. none-afforded p at b (rows_of 18446744073709551615 0 0) why f l (record { completion = c; affords = allowed l })

pub places-mapped : (p : Task) (b : List ℕ) (r : Option (List ℕ)) → PlacesFrom p 0 b r → FirstPlaces p b r
places-mapped p b (Some ks) f = (f.0, f.1, first_alike (completion-mapped p b) (mapped-completion p b) f.0 f.2)
places-mapped p b None f = λ l m. f l (mapped-completion p b l m)

pub answer-enough : (p : Task) (b : List ℕ) (used may left : ℕ) (r : Result (List ℕ) Reasons) → SearchSays p 0 b (rows_of used may left) r → Enough p b used may left (is_ok r)
answer-enough p b used may left (Ok ks) f =
    let h = f.2.holds in
    record { exactly = (λ y. record { places = f.0; mapped = completion-mapped p b f.0 h.completion; within = affords-rows p may used left f.0 h.affords }, λ y. refl) }
answer-enough p b used may left (Err why) f =
    record { exactly = (λ y. cc, λ y. absurd (none-afforded p 0 b (rows_of used may left) why f y.places (record { completion = mapped-completion p b y.places y.mapped; affords = rows-affords p may used left y.places y.within }))) }
