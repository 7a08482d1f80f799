-- Facts and subgoals as long as their relations' arities.
use mathlib.Core.Path.{◌≡◌, refl, ◌∙◌, subst}
use mathlib.Core.Option.{Option, some, none}
use mathlib.Core.List.Memᴰ
use mathlib.Core.List.{List, map}
use Prim.Native.Nat.{ℕ}
use lib.ListN.{length-map}
use Rattle.spec.specs.Words.{con, Subgoal, Rule, Fits, AllFit, becomes, each}
use Rattle.spec.specs.Summaries.{Summaries, summary, or_empty, definition, in_use, expansion}
use Rattle.containment.proofs.Places.{used}
use Rattle.containment.proofs.Held.{Every}

pub fit-each : {A B : Type 0} (arities : List ℕ) (f : A → B) (l : List (Subgoal A)) → AllFit arities l → AllFit arities (map (each f) l)
fit-each arities f l fit g m =
    let w = Memᴰ.of_map (each f) l m in
    subst (Fits arities) w.2 record { known = (fit w.0 w.1).known; long = length-map w.0.terms f ∙ (fit w.0 w.1).long }

-- Each admitted summary's subgoals are as long as their relations' arities.
abbrev pub FitEvery : List ℕ → Summaries → Type 0
FitEvery arities s = Every s (λ r. AllFit arities r.body)

fit-definition : (arities : List ℕ) (s : Summaries) → FitEvery arities s → (n : ℕ) → AllFit arities (definition s n).body
fit-definition arities s fit n = go (summary s n) refl
  where
    go : (o : Option (Rule ℕ)) → summary s n ≡ o → AllFit arities (or_empty o).body
    go none e = λ g m. absurd (Memᴰ.not-nil m)
    go (some r) e = fit n r e

pub fit-expansion : {X : Type 0} (arities : List ℕ) (s : Summaries) → FitEvery arities s → (r : Rule X) → AllFit arities (expansion s r).body
fit-expansion arities s fit r c m =
    let w = used s 0 r.body c m in
    fit-each arities (becomes con (in_use s _ w.of)) (definition s w.of.relation).body (fit-definition arities s fit w.of.relation) c w.inside
