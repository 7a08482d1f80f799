-- Where the ends of uses are marked, the use that a task counts is the one that the place lies in.
use mathlib.Core.Path.{◌≡◌, refl, sym, ap, ap₂, ◌∙◌}
use mathlib.Core.Bool.{Bool, true, false, cond}
use mathlib.Core.List.Memᴰ
use mathlib.Core.List.{List, [], ◌∷◌}
use Prim.Native.Nat.{ℕ, zero, suc, ◌+◌, ◌-◌, ◌<◌, ◌≤◌}
use native.Mathlib.Omega.{arith}
use native.Mathlib.Decide.{dec_lt}
use lib.Dec.{eqb}
use lib.ListN.{length, get_or, length-append, get_or-append}
use lib.Seq.{get_or-append-add}
use borrow.Author.Tests.{eq-eqb, ne_eqb}
use Rattle.spec.specs.Words.{◌∈◌}
use Rattle.spec.specs.Summaries.{joined}
use Rattle.task.specs.Task.{Task}
use Rattle.task.specs.Mapped.{use_of}
use Rattle.search_meaning.specs.Uses.{use_at, end_of, ends_of}
use Rattle.search_meaning.proofs.Pairs.{use-here, use-later}

pub end-long : (n : ℕ) → length (end_of n) ≡ n
end-long zero = refl
end-long (suc zero) = refl
end-long (suc (suc n)) = ap suc (end-long (suc n))

end_before : (n i : ℕ) → suc i < n → get_or (end_of n) i 0 ≡ 0
end_before zero i h = absurd (omega arith)
end_before (suc zero) i h = absurd (omega arith)
end_before (suc (suc n)) zero h = refl
end_before (suc (suc n)) (suc i) h = end_before (suc n) i (omega arith)

end-last : (i : ℕ) → get_or (end_of (suc i)) i 0 ≡ 1
end-last zero = refl
end-last (suc i) = end-last i

-- from one place to the next: the use after it where an end is marked, the same use elsewhere
abbrev step_to : ℕ → ℕ → ℕ
step_to mark u = cond (eqb mark 0) u (suc u)

step-suc : (mark u : ℕ) → suc (step_to mark u) ≡ step_to mark (suc u)
step-suc mark u = go (eqb mark 0)
  where
    go : (b : Bool) → suc (cond b u (suc u)) ≡ cond b (suc u) (suc (suc u))
    go true = refl
    go false = refl

module _ {A : Type 0} where
  pub ends-long : (ls : List (List A)) → length (ends_of ls) ≡ length (joined ls)
  ends-long [] = refl
  ends-long (m ∷ ls) = length-append (end_of (length m)) (ends_of ls) ∙ omega (arith, end-long (length m), ends-long ls, length-append m (joined ls))

  ends-here : (m : List A) (ls : List (List A)) (i : ℕ) → i < length m → get_or (ends_of (m ∷ ls)) i 0 ≡ get_or (end_of (length m)) i 0
  ends-here m ls i h = get_or-append (end_of (length m)) (ends_of ls) 0 i (omega (arith, end-long (length m)))

  ends-later : (m : List A) (ls : List (List A)) (i : ℕ) → get_or (ends_of (m ∷ ls)) (length m + i) 0 ≡ get_or (ends_of ls) i 0
  ends-later m ls i = ap (λ n. get_or (ends_of (m ∷ ls)) (n + i) 0) (sym (end-long (length m))) ∙ get_or-append-add (end_of (length m)) (ends_of ls) i 0

  abbrev pub AllSome : List (List A) → Type 0
  AllSome ls = (m : List A) → m ∈ ls → 1 ≤ length m

  first-use : (ls : List (List A)) → AllSome ls → use_at ls 0 ≡ 0
  first-use [] full = refl
  first-use (m ∷ ls) full = (use-here m ls 0 (full m (Memᴰ.head refl))).0

  abbrev next : List (List A) → ℕ → ℕ
  next ls i = step_to (get_or (ends_of ls) i 0) (use_at ls i)

  next-use : (ls : List (List A)) → AllSome ls → (i : ℕ) → suc i < length (joined ls) → use_at ls (suc i) ≡ next ls i
  next-use [] full i h = absurd (omega arith)
  next-use (m ∷ ls) full i h = go (dec_lt (suc i) (length m)) (dec_lt i (length m)) (next-use ls (λ k j. full k (Memᴰ.tail j)) (i - length m))
    where
      full' : AllSome ls
      full' k j = full k (Memᴰ.tail j)

      go : Dec (suc i < length m) → Dec (i < length m) → (suc (i - length m) < length (joined ls) → use_at ls (suc (i - length m)) ≡ next ls (i - length m)) → use_at (m ∷ ls) (suc i) ≡ next (m ∷ ls) i
      go (yes a) b rest =
          let z : get_or (ends_of (m ∷ ls)) i 0 ≡ 0 = ends-here m ls i (omega arith) ∙ end_before (length m) i a in
          (use-here m ls (suc i) a).0 ∙ rw (eq-eqb (get_or (ends_of (m ∷ ls)) i 0) 0 z) (sym (use-here m ls i (omega arith)).0)
      go (no a) (yes b) rest =
          let n : suc i ≡ length m = omega arith in
          let one : get_or (ends_of (m ∷ ls)) i 0 ≡ 1 = ends-here m ls i b ∙ ap (λ k. get_or (end_of k) i 0) (sym n) ∙ end-last i in
          let past : use_at (m ∷ ls) (suc i) ≡ 1 = ap (use_at (m ∷ ls)) (let e : suc i ≡ length m + 0 = omega arith in e) ∙ (use-later m ls 0).0 ∙ ap suc (first-use ls full') in
          past ∙ rw (ne_eqb (get_or (ends_of (m ∷ ls)) i 0) 0 (λ z. omega arith)) (ap suc (sym (use-here m ls i b).0))
      go (no a) (no b) rest =
          let n : i ≡ length m + (i - length m) = omega arith in
          let sn : suc i ≡ length m + suc (i - length m) = omega arith in
          ap (use_at (m ∷ ls)) sn ∙ (use-later m ls (suc (i - length m))).0 ∙ ap suc (rest (omega (arith, length-append m (joined ls))))
          ∙ step-suc (get_or (ends_of ls) (i - length m) 0) (use_at ls (i - length m)) ∙ ap₂ step_to (sym (ends-later m ls (i - length m))) (sym (use-later m ls (i - length m)).0) ∙ ap (next (m ∷ ls)) (sym n)

  pub use-of-is : (p : Task) (ls : List (List A)) → AllSome ls → p.lasts ≡ ends_of ls → (i : ℕ) → i < length (joined ls) → use_of p i ≡ use_at ls i
  unfolding use_of
  use-of-is p ls full e zero h = sym (first-use ls full)
  use-of-is p ls full e (suc i) h = ap₂ step_to (ap (λ l. get_or l i 0) e) (use-of-is p ls full e i (omega arith)) ∙ sym (next-use ls full i h)
