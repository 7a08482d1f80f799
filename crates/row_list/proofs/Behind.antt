-- Codes at the front of an area, and more codes written behind them to the part of the area that is left.
use mathlib.Core.Path.{◌≡◌, sym, ap, ap₂, ◌∙◌}
use mathlib.Core.List.{List, [], ◌++◌, append_assoc, append-nil}
use Prim.Native.Nat.{ℕ, ◌+◌, ◌-◌, ◌≤◌}
use native.Mathlib.Omega.{arith}
use lib.ListN.{length, take, drop, length-append, length-drop, drop_of_length-le}
use lib.Seq.{drop_at, drop-drop}
use borrow.Rule.Slice.PartMut.{put_mid}
use Rattle.spec.specs.Given.{at_front}
use Rattle.spec.proofs.Lists.Parts.{to_end}
use Rattle.rule_codes.proofs.Stores.{front_length, front-again}

module _ (front more before mid part : List ℕ) (a : ℕ) (long : length front ≡ a) (fits : a + length more ≤ length before) (is : mid ≡ at_front front before) where
  pub mid-long : length mid ≡ length before
  mid-long = ap length is ∙ front_length front before (omega arith)

  rest : drop a mid ≡ drop a before
  rest = ap (drop a) is ∙ drop_at front (drop (length front) before) a long ∙ ap (λ n. drop n before) long

  pub behind : part ≡ at_front more (take (length mid - a) (drop a mid)) → take a mid ++ (part ++ drop (length mid - a) (drop a mid)) ≡ at_front (front ++ more) before
  behind e =
      let kept : take a mid ≡ front = front-again front before mid a is long in
      let over : drop (length mid - a) (drop a mid) ≡ [] = drop_of_length-le (drop a mid) {i = length mid - a} (omega (arith, length-drop a mid)) in
      let size : a + length more ≡ length (front ++ more) = omega (arith, length-append front more) in
      let new : part ≡ more ++ drop (length (front ++ more)) before = e ∙ ap (λ l. more ++ drop (length more) l) (to_end mid a ∙ rest) ∙ ap (λ l. more ++ l) (drop-drop (length more) a before ∙ ap (λ n. drop n before) size) in
      ap₂ (λ x y. x ++ (part ++ y)) kept over ∙ ap (λ l. front ++ l) (append-nil part ∙ new) ∙ sym (append_assoc front more (drop (length (front ++ more)) before))

-- codes written to a part behind the front
pub written-behind : (front part before mid : List ℕ) (a m : ℕ) → length front ≡ a → length part ≡ m → mid ≡ at_front front before → put_mid a m mid part ≡ at_front (front ++ part) before
written-behind front part before mid a m long wide is =
    let rest : drop a mid ≡ drop a before = ap (drop a) is ∙ drop_at front (drop (length front) before) a long ∙ ap (λ n. drop n before) long in
    let size : a + m ≡ length (front ++ part) = omega (arith, length-append front part) in
    ap₂ (λ x y. x ++ (part ++ y)) (front-again front before mid a is long) (ap (drop m) rest ∙ drop-drop m a before ∙ ap (λ n. drop n before) size)
    ∙ sym (append_assoc front part (drop (length (front ++ part)) before))
