-- A task made of subgoals has the sizes that the search asks for.
use mathlib.Core.Path.{◌≡◌, refl, sym, ap, ◌∙◌}
use mathlib.Core.List.Memᴰ
use mathlib.Core.List.{List, [], ◌∷◌, map}
use Prim.Native.Nat.{ℕ, zero, suc, ◌+◌, ◌*◌, ◌<◌, ◌≤◌}
use native.Mathlib.Omega.{arith}
use native.Mathlib.Decide.{dec_lt}
use lib.ListN.{length, get_or, length-map, get_or-eq_default}
use Rattle.spec.specs.Words.{◌∈◌, Subgoal}
use Rattle.spec.proofs.Lists.At.{get_or-in}
use Rattle.codes.specs.Code.{padded}
use Rattle.codes.proofs.Padded.{codes-length}
use Rattle.task.specs.Task.{Task, Sized, width_of, target_term}
use Rattle.search_meaning.specs.Coded.{Naming, Coding, task, SmallTask}
use Rattle.search_meaning.proofs.AtCodes.{nothing, codes-get, width-at}

padded-solid : (n : ℕ) (l : List ℕ) (a : ℕ) → a < n → ((x : ℕ) → x ∈ l → x ≡ 0 → ⊥) → get_or (padded n l) a 0 ≡ 0 → ⊥
padded-solid zero l a h solid e = omega arith
padded-solid (suc n) [] zero h solid e = omega arith
padded-solid (suc n) [] (suc a) h solid e = padded-solid n [] a (omega arith) solid e
padded-solid (suc n) (x ∷ l) zero h solid e = solid x (Memᴰ.head refl) e
padded-solid (suc n) (x ∷ l) (suc a) h solid e = padded-solid n l a (omega arith) (λ y m. solid y (Memᴰ.tail m)) e

module _ {S D : Type 0} (n : Naming S) (c : Coding D) (src : List (Subgoal S)) (lasts : List ℕ) (tgt : List (Subgoal D)) (own : List ℕ) (small : SmallTask c src lasts tgt own) where
  abbrev p : Task
  p = task n c src lasts tgt own

  goals-are : length p.widths ≡ length src
  goals-are = length-map src (λ g. length g.terms)

  widths : (i : ℕ) → width_of p i ≤ 8
  widths i = elim (dec_lt i (length src)) [
    | yes h ↦ omega (arith, width-at src i, small.room (get_or src i nothing) (get_or-in nothing src i h))
    | no h ↦ let e : width_of p i ≡ 0 = get_or-eq_default p.widths 0 (omega (arith, goals-are)) in omega arith
  ]

  solid : (k a : ℕ) → k < length own → a < 8 → target_term p k a ≡ 0 → ⊥
  solid k a h m z =
      let o : k < length tgt = omega (arith, small.rows) in
      let g : Subgoal D = get_or tgt k nothing in
      let e : 9 * k + 1 + a ≡ 9 * k + suc a = omega arith in
      padded-solid 8 (map c.code g.terms) a m
      (λ x i q. let w = Memᴰ.of_map c.code g.terms i in small.solid w.0 (g, get_or-in nothing tgt k o, w.1) (w.2 ∙ q))
      (sym (ap (λ j. get_or p.target j 0) e ∙ codes-get c.code tgt k (suc a) o (omega arith)) ∙ z)

  pub sized : Sized p
  sized = record {
    few = omega (arith, small.few, goals-are);
    source = omega (arith, codes-length n.code src, goals-are);
    lasts = omega (arith, small.marked, goals-are);
    many = omega (arith, small.many, small.rows);
    target = omega (arith, codes-length c.code tgt, small.rows);
    widths = widths;
    rows = small.sets;
    solid = solid;
  }
