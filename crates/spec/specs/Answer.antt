-- The answer and its witness: the first of the shortest equivalent lists of rows, and its mappings there and back.
use Rattle.std.specs.Prelude.{◌≡◌, List, [], ◌∷◌, map, ℕ, ◌<◌}
use Rattle.std.proofs.Math.Option.{some}
use Rattle.spec.specs.Words.{◌∈◌, Term, con, Subgoal, Rule, becomes, each}
use Rattle.spec.specs.Summaries.{place, Summaries, SummaryRow, Own, uses, expansion, Equivalent, rewriting}
use Rattle.spec.specs.Order.{ListBefore, Ascending, ShorterFirst, First}

-- An "equivalent list[..] of distinct summary rows, each list ascending"
pub record Rewrites (s : Summaries) (q : Rule ℕ) (l : List (Subgoal (Term ℕ))) : Type 0 where
  pub rows : (g : Subgoal (Term ℕ)) → g ∈ l → SummaryRow s q g
  pub ascending : Ascending l
  pub equivalent : Equivalent s q (rewriting q l)

-- "The answer is the first of the shortest equivalent lists of distinct summary rows, each list ascending, lists compared row by row."
abbrev pub Answer : Summaries → Rule ℕ → List (Subgoal (Term ℕ)) → Type 0
Answer s q l = First (Rewrites s q) ShorterFirst l

-- A containment mapping that sends the k-th subgoal of q to the k-th of the targets, and q's head to the given one.
pub record Sends {X Y : Type 0} (q : Rule X) (head : List (Term Y)) (targets : List (Subgoal (Term Y))) : Type 0 where
  pub value : X → Term Y
  pub gives : map (becomes con value) q.head ≡ head
  pub sends : map (each (becomes con value)) q.body ≡ targets

-- "All count from 1": the subgoals at these places.
abbrev pub AtPlaces : {A : Type 0} → List A → List ℕ → List A → Type 0
AtPlaces l [] [] = Unit {0}
AtPlaces l [] (g ∷ gs) = ⊥
AtPlaces l (n ∷ ns) [] = ⊥
AtPlaces l (n ∷ ns) (g ∷ gs) = (place l n ≡ some g) × AtPlaces l ns gs

-- "two bytes: rewriting subgoal and subgoal within that summary"
abbrev pub AtPairs : {A : Type 0} → List (List A) → List ℕ → List A → Type 0
AtPairs {A} ls [] [] = Unit {0}
AtPairs {A} ls [] (g ∷ gs) = ⊥
AtPairs {A} ls (n ∷ []) gs = ⊥
AtPairs {A} ls (n ∷ m ∷ ns) [] = ⊥
AtPairs {A} ls (n ∷ m ∷ ns) (g ∷ gs) = ((l : List A) × (place ls n ≡ some l) × (place l m ≡ some g)) × AtPairs ls ns gs

-- "per question subgoal, two bytes: rewriting subgoal and subgoal within that summary"
pub record There (s : Summaries) (q r : Rule ℕ) (bytes : List ℕ) : Type 0 where
  pub targets : List (Subgoal (Term (Own ℕ)))
  pub named : AtPairs (uses s 0 r.body) bytes targets
  pub mapping : Sends q (expansion s r).head targets

-- "per rewriting subgoal and per subgoal of its summary, one byte: question subgoal"
pub record Back (s : Summaries) (q r : Rule ℕ) (bytes : List ℕ) : Type 0 where
  pub targets : List (Subgoal (Term ℕ))
  pub named : AtPlaces q.body bytes targets
  pub mapping : Sends (expansion s r) q.head targets

-- "Each of the two parts is the first, byte by byte, that gives a containment mapping."
abbrev pub FirstThere : Summaries → Rule ℕ → Rule ℕ → List ℕ → Type 0
FirstThere s q r = First (There s q r) (ListBefore ◌<◌)

abbrev pub FirstBack : Summaries → Rule ℕ → Rule ℕ → List ℕ → Type 0
FirstBack s q r = First (Back s q r) (ListBefore ◌<◌)
