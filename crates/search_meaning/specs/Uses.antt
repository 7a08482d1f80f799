-- Uses one after the other: which of them a place lies in, and where in it; which subgoals end a use.
use Rattle.std.specs.Prelude.{cond, List, [], ◌∷◌, ◌++◌, ℕ, zero, suc, ◌-◌, ltb, length}

-- The list that the place k among all lies in, and its place there; all counted from 0.
abbrev pub use_at : {A : Type 0} → List (List A) → ℕ → ℕ
use_at [] k = 0
use_at (m ∷ ls) k = cond (ltb k (length m)) 0 (suc (use_at ls (k - length m)))

abbrev pub within_at : {A : Type 0} → List (List A) → ℕ → ℕ
within_at [] k = k
within_at (m ∷ ls) k = cond (ltb k (length m)) k (within_at ls (k - length m))

-- "per question subgoal, two bytes: rewriting subgoal and subgoal within that summary"; "All count from 1."
abbrev pub pairs_of : {A : Type 0} → List (List A) → List ℕ → List ℕ
pairs_of ls [] = []
pairs_of ls (k ∷ l) = suc (use_at ls k) ∷ suc (within_at ls k) ∷ pairs_of ls l

-- For n subgoals of a use: 1 for the last, 0 for the others.
abbrev pub end_of : ℕ → List ℕ
end_of zero = []
end_of (suc zero) = 1 ∷ []
end_of (suc (suc n)) = 0 ∷ end_of (suc n)

abbrev pub ends_of : {A : Type 0} → List (List A) → List ℕ
ends_of [] = []
ends_of (m ∷ ls) = end_of (length m) ++ ends_of ls
