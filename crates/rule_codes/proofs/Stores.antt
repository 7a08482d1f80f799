-- Codes stored one after the other: into an area from a place on, and at the front of an area.
use mathlib.Core.Path.{◌≡◌, sym, ap, ap₂, ◌∙◌}
use mathlib.Core.List.{List, ◌++◌, append_assoc}
use Prim.Native.Nat.{ℕ, suc, ◌+◌, ◌<◌, ◌≤◌}
use native.Mathlib.Omega.{arith}
use borrow.Rule.Slice.PartMut.{put_mid}
use lib.ListN.{length, get_or, take, drop, set, length-append, length-drop}
use lib.Seq.{sets, sets-eq, take-suc, take_at, take_all, length-take-le, take-append_seam, drop-append-add, drop-drop}
use Rattle.spec.specs.Given.{at_front}
use Rattle.spec.proofs.Lists.Stores.{sets_more}

module _ (before : List ℕ) (to : ℕ) (codes : List ℕ) where
  -- the area with the first k codes stored
  pub stores-more : (k v : ℕ) → k < length codes → v ≡ get_or codes k 0 → set (sets before to (take k codes)) (to + k) v ≡ sets before to (take (suc k) codes)
  stores-more k v h e =
      let n : length (take k codes) ≡ k = length-take-le k codes (omega arith) in
      ap₂ (λ j w. set (sets before to (take k codes)) (to + j) w) (sym n) e ∙ sets_more before to (take k codes) (get_or codes k 0) ∙ ap (sets before to) (sym (take-suc codes k 0 h))

  pub stores-end : (k : ℕ) → length codes ≤ k → sets before to (take k codes) ≡ sets before to codes
  stores-end k h = ap (sets before to) (take_all k codes h)

-- codes copied over a part
pub part-stored : (all : List ℕ) (i k : ℕ) (codes : List ℕ) → i + k ≤ length all → length codes ≡ k → put_mid i k all codes ≡ sets all i codes
part-stored all i k codes h e = rw (drop-drop k i all, sym e, sets-eq codes all i (omega arith)) (sym (append_assoc (take i all) codes (drop (i + length codes) all)))

-- more codes at the front
pub front-more : (front codes all : List ℕ) → length front + length codes ≤ length all → sets (at_front front all) (length front) codes ≡ at_front (front ++ codes) all
front-more front codes all h =
    sets-eq codes (at_front front all) (length front) (omega (arith, length-append front (drop (length front) all), length-drop (length front) all))
    ∙ ap₂ (λ a b. (a ++ codes) ++ b) (take-append_seam front (drop (length front) all)) (drop-append-add front (drop (length front) all) (length codes) ∙ drop-drop (length codes) (length front) all)
    ∙ ap (λ n. (front ++ codes) ++ drop n all) (sym (length-append front codes))

pub front_length : (front all : List ℕ) → length front ≤ length all → length (at_front front all) ≡ length all
front_length front all h = omega (arith, length-append front (drop (length front) all), length-drop (length front) all)

-- the front of an area, as it is read again
pub front-again : (front before after : List ℕ) (n : ℕ) → after ≡ at_front front before → length front ≡ n → take n after ≡ front
front-again front before after n e f = ap (take n) e ∙ take_at front _ n f
