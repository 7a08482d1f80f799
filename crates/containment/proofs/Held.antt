-- What the admitted summaries yield or hold: carried to other values, and rules over it.
use mathlib.Core.Path.{◌≡◌}
use mathlib.Core.Logic.{◌↔◌}
use mathlib.Core.Option.{some}
use mathlib.Core.List.{List}
use Prim.Native.Nat.{ℕ}
use Rattle.spec.specs.Words.{con, Subgoal, Rule, Facts, becomes, each, Yields, itself}
use Rattle.spec.specs.Summaries.{Summaries, summary, Yielded, HoldJust}
use Rattle.spec.specs.Demand.{OverAdmitted}
use Rattle.containment.proofs.Carry.{StandsInRule, carry, more}

-- Every admitted summary's rule has the property.
abbrev pub Every : Summaries → (Rule ℕ → Type 0) → Type 0
Every s P = (n : ℕ) (r : Rule ℕ) → summary s n ≡ some r → P r

pub yielded-carry : {A B : Type 0} (h : A → B) {k : ℕ → A} {k' : ℕ → B} {d : Facts A} {d' : Facts B} (s : Summaries)
    → Every s (λ r. (c : ℕ) → StandsInRule (con c) r → h (k c) ≡ k' c) → ((f : Subgoal A) → d f → d' (each h f))
    → (f : Subgoal A) → Yielded k s d f → Yielded k' s d' (each h f)
yielded-carry h s keeps facts f y = record { rule = y.rule; admitted = y.admitted; yields = carry h y.rule (keeps f.relation y.rule y.admitted) facts y.yields }

pub yielded-more : {A : Type 0} {k : ℕ → A} {d d' : Facts A} {s : Summaries} → ((f : Subgoal A) → d f → d' f) → (f : Subgoal A) → Yielded k s d f → Yielded k s d' f
yielded-more facts f y = record { rule = y.rule; admitted = y.admitted; yields = more facts y.yields }

-- Over summaries that hold just what their definitions yield, such a rule yields what it yields over what they yield.
pub over-held : {X : Type 0} (s : Summaries) (d held : Facts ℕ) → HoldJust s d held → (p : Rule X) → OverAdmitted s p → (row : List ℕ)
    → Yields itself p held row ↔ Yields itself p (Yielded itself s d) row
over-held s d held just p over row = (
  λ y. record { value = y.value; gives = y.gives; holds = λ g m. let a = over g m in record { rule = a.0; admitted = a.1; yields = (just (each (becomes itself y.value) g) a.0 a.1).0 (y.holds g m) } },
  λ y. record { value = y.value; gives = y.gives; holds = λ g m. let f = y.holds g m in (just (each (becomes itself y.value) g) f.rule f.admitted).1 f.yields },
)
