-- Of each element of lists one after the other its place in its list; and where each list begins among all.
use Rattle.std.specs.Prelude.{List, [], ◌∷◌, ◌++◌, ℕ, ◌+◌, length}
use Rattle.spec.proofs.Lists.Counted.{counted}

-- places count from 0
abbrev pub insides : {A : Type 0} → List (List A) → List ℕ
insides [] = []
insides (m ∷ ls) = counted 0 (length m) ++ insides ls

-- the first begins at `at`; where the last ends stands behind
abbrev pub starts : {A : Type 0} → ℕ → List (List A) → List ℕ
starts at [] = at ∷ []
starts at (m ∷ ls) = at ∷ starts (at + length m) ls
