-- Pairs of bytes and the places that they name: as lists, both ways.
use mathlib.Core.Path.{◌≡◌, refl, sym, ap, ap₂, ◌∙◌, subst}
use mathlib.Core.List.{List, [], ◌∷◌}
use Prim.Native.Nat.{ℕ, zero, suc, ◌+◌, ◌*◌, ◌-◌, ◌<◌, ◌≤◌}
use native.Mathlib.Omega.{arith}
use native.Mathlib.Decide.{dec_lt}
use lib.ListN.{length, get_or, length-append}
use lib.Seq.{ext_get_or}
use Rattle.spec.specs.Summaries.{joined}
use Rattle.book_codes.specs.Insides.{starts}
use Rattle.book_codes.proofs.Read.{first-start}
use Rattle.search_meaning.specs.Uses.{use_at, within_at, pairs_of}
use Rattle.search_meaning.proofs.Pairs.{use-here, use-later}
use Rattle.witness_check.specs.WayThere.Places.{InUse, Names, PairNames}

module _ {A : Type 0} where
  -- a place lies in its use; the first use begins at `at`
  pub place_in : (at : ℕ) (ls : List (List A)) (j : ℕ) → j < length (joined ls) → InUse (starts at ls) (length ls) (use_at ls j) (within_at ls j) (at + j)
  place_in at [] j h = absurd (omega arith)
  place_in at (m ∷ ls) j h = go (dec_lt j (length m)) (place_in (at + length m) ls (j - length m))
    where
      go : Dec (j < length m) → (j - length m < length (joined ls) → InUse (starts (at + length m) ls) (length ls) (use_at ls (j - length m)) (within_at ls (j - length m)) (at + length m + (j - length m)))
          → InUse (starts at (m ∷ ls)) (length (m ∷ ls)) (use_at (m ∷ ls) j) (within_at (m ∷ ls) j) (at + j)
      go (yes l) rest = let u = use-here m ls j l in rw (u.0, u.1) record { less = omega arith; is = refl; within = omega (arith, first-start (at + length m) ls) }
      go (no l) rest =
          let n : j ≡ length m + (j - length m) = omega arith in
          let u = use-later m ls (j - length m) in
          let i = rest (omega (arith, length-append m (joined ls))) in
          let a : use_at (m ∷ ls) j ≡ suc (use_at ls (j - length m)) = ap (use_at (m ∷ ls)) n ∙ u.0 in
          let b : within_at (m ∷ ls) j ≡ within_at ls (j - length m) = ap (within_at (m ∷ ls)) n ∙ u.1 in
          let e : at + j ≡ at + length m + (j - length m) = omega arith in
          rw (a, b) record { less = let x = i.less in omega arith; is = e ∙ i.is; within = let x = i.within in omega arith }

  -- and what lies in a use is such a place
  pub in_place : (at : ℕ) (ls : List (List A)) (u w p : ℕ) → InUse (starts at ls) (length ls) u w p → (j : ℕ) × (p ≡ at + j) × (use_at ls j ≡ u) × (within_at ls j ≡ w) × (j < length (joined ls))
  in_place at [] u w p i = absurd (let x = i.less in omega arith)
  in_place at (m ∷ ls) zero w p i =
      let l : w < length m = let x = i.is in let y = i.within in omega (arith, first-start (at + length m) ls) in
      let u = use-here m ls w l in
      (w, i.is, u.0, u.1, omega (arith, length-append m (joined ls)))
  in_place at (m ∷ ls) (suc u) w p i =
      let r = in_place (at + length m) ls u w p record { less = let x = i.less in omega arith; is = i.is; within = i.within } in
      let v = use-later m ls r.0 in
      (length m + r.0, omega (arith, r.1), v.0 ∙ ap suc r.2, v.1 ∙ r.3, omega (arith, r.4, length-append m (joined ls)))

  module _ (ls : List (List A)) (begins : List ℕ) (reads : (u : ℕ) → u ≤ length ls → get_or begins u 0 ≡ get_or (starts 0 ls) u 0) where
    in-starts : {u w p : ℕ} → InUse begins (length ls) u w p → InUse (starts 0 ls) (length ls) u w p
    in-starts {u} {w} i = let l = i.less in record { less = l; is = i.is ∙ ap (λ n. n + w) (reads u (omega arith)); within = let h = i.within in omega (arith, reads (suc u) l) }

    in-begins : {u w p : ℕ} → InUse (starts 0 ls) (length ls) u w p → InUse begins (length ls) u w p
    in-begins {u} {w} i = let l = i.less in record { less = l; is = i.is ∙ ap (λ n. n + w) (sym (reads u (omega arith))); within = let h = i.within in omega (arith, reads (suc u) l) }

    -- what stands at i of the places is what the pair at i names
    abbrev pub Pointed : List ℕ → List ℕ → Type 0
    Pointed bytes l = (i : ℕ) → i < length l → PairNames bytes begins (length ls) i (get_or l i 0)

    pointed-rest : (a b : ℕ) (bytes : List ℕ) (x : ℕ) (l : List ℕ) → Pointed (a ∷ b ∷ bytes) (x ∷ l) → Pointed bytes l
    pointed-rest a b bytes x l h i o =
        let e : 2 * suc i ≡ suc (suc (2 * i)) = omega arith in
        let f : 2 * suc i + 1 ≡ suc (suc (2 * i + 1)) = omega arith in
        rw (ap (λ n. get_or (a ∷ b ∷ bytes) n 0) e, ap (λ n. get_or (a ∷ b ∷ bytes) n 0) f) at (h (suc i) (omega arith))

    pub pairs-named : (bytes l : List ℕ) → length bytes ≡ 2 * length l → Pointed bytes l → pairs_of ls l ≡ bytes
    pairs-named [] [] n h = refl
    pairs-named (a ∷ bytes) [] n h = absurd (omega arith)
    pairs-named [] (x ∷ l) n h = absurd (omega arith)
    pairs-named (a ∷ []) (x ∷ l) n h = absurd (omega arith)
    pairs-named (a ∷ b ∷ bytes) (x ∷ l) n h =
        let p = h 0 (omega arith) in
        let j = in_place 0 ls p.0 p.1 x (in-starts p.4) in
        let e : x ≡ j.0 = omega (arith, j.1) in
        let rest = pairs-named bytes l (omega arith) (pointed-rest a b bytes x l h) in
        let f : suc (use_at ls x) ≡ a = ap (λ z. suc (use_at ls z)) e ∙ ap suc j.2 ∙ sym p.2 in
        let g : suc (within_at ls x) ≡ b = ap (λ z. suc (within_at ls z)) e ∙ ap suc j.3 ∙ sym p.3 in
        ap₂ (λ y z. y ∷ z ∷ pairs_of ls l) f g ∙ ap (λ z. a ∷ b ∷ z) rest

    -- a pair names one place
    names-once : {row inner p q : ℕ} → Names begins (length ls) row inner p → Names begins (length ls) row inner q → p ≡ q
    names-once x y =
        let u : x.0 ≡ y.0 = omega (arith, x.2, y.2) in
        let w : x.1 ≡ y.1 = omega (arith, x.3, y.3) in
        x.4.is ∙ ap₂ (λ a b. get_or begins a 0 + b) u w ∙ sym y.4.is

    -- each pair of places in uses names its place
    pub names-each : (l : List ℕ) → ((i : ℕ) → i < length l → get_or l i 0 < length (joined ls)) → Pointed (pairs_of ls l) l
    names-each [] within i o = absurd (omega arith)
    names-each (x ∷ l) within zero o = let z : 0 + x ≡ x = omega arith in (use_at ls x, within_at ls x, refl, refl, subst (InUse begins (length ls) (use_at ls x) (within_at ls x)) z (in-begins (place_in 0 ls x (within 0 (omega arith)))))
    names-each (x ∷ l) within (suc i) o =
        let e : 2 * suc i ≡ suc (suc (2 * i)) = omega arith in
        let f : 2 * suc i + 1 ≡ suc (suc (2 * i + 1)) = omega arith in
        rw (ap (λ n. get_or (pairs_of ls (x ∷ l)) n 0) e, ap (λ n. get_or (pairs_of ls (x ∷ l)) n 0) f) (names-each l (λ j h. within (suc j) (omega arith)) i (omega arith))

    pub named-pairs : (l m : List ℕ) → length l ≡ length m → ((i : ℕ) → i < length l → get_or l i 0 < length (joined ls)) → Pointed (pairs_of ls l) m → l ≡ m
    named-pairs l m n within h = ext_get_or 0 l m n (λ i o. names-once (names-each l within i o) (h i (omega arith)))
