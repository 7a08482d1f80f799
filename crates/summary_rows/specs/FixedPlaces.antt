-- What the first steps do, as they do it.
use Rattle.std.specs.Prelude.{List, ℕ, zero, suc, ◌+◌, ◌*◌, get_or, set, replicate}
use Rattle.codes.specs.Code.{most_slots, subgoal_size}

-- the bindings that put the first j places of a head, of one term each, which is a slot, on the targets ks
unfoldable pub fixing : List ℕ → List ℕ → List ℕ → ℕ → List ℕ
fixing source target ks zero = replicate most_slots 0
fixing source target ks (suc j) = set (fixing source target ks j) (get_or source (subgoal_size * j + 1) 0) (get_or target (subgoal_size * get_or ks j 0 + 1) 0)
