-- "A summary left out has no say": which books differ in such summaries alone.
use Rattle.std.specs.Prelude.{◌≡◌, ◌⊎◌, List, [], ◌∷◌, ℕ}
use Rattle.spec.specs.Refresh.{Admitted}
use Rattle.spec.specs.Book.{Summary}

-- A summary that is not admitted.
abbrev pub LeftOut : ℕ → Summary → Type 0
LeftOut need m = Admitted need m.stamp m.rule → ⊥

-- "another sound definition or another stamp, so long as it stays left out": summary by summary the same, or left out in both.
abbrev pub SameButLeftOut : ℕ → List Summary → List Summary → Type 0
SameButLeftOut need [] [] = Unit {0}
SameButLeftOut need [] (n ∷ ns) = ⊥
SameButLeftOut need (m ∷ ms) [] = ⊥
SameButLeftOut need (m ∷ ms) (n ∷ ns) = ((m ≡ n) ⊎ (LeftOut need m × LeftOut need n)) × SameButLeftOut need ms ns
