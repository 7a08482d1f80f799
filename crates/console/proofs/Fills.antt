-- A room that is filled from the front, part by part.
use Rattle.std.proofs.Common.{◌≡◌, ℕ, ◌+◌, ◌-◌, ◌≤◌, List, ◌++◌, arith, length, take, sym, ap, ◌∙◌, length-take-le}
use Rattle.std.proofs.Math.Seq.{take-append-add, take-append-le}
use borrow.Rule.Slice.PartMut.{put_mid, post_of}

-- What stands at the front after a part came: what stood there, and the part's front.
pub filled-more : (from came : ℕ) (room part : List ℕ) → from ≤ length room → came ≤ length part → take (from + came) (put_mid from (length room - from) room part) ≡ take from room ++ take came part
filled-more from came room part within fits =
    let rest = part ++ post_of from (length room - from) room in
    let long : length (take from room) + came ≡ from + came = omega (arith, length-take-le from room within) in
    ap (λ n. take n (take from room ++ rest)) (sym long) ∙ take-append-add (take from room) rest came
    ∙ ap (λ l. take from room ++ l) (take-append-le came part (post_of from (length room - from) room) fits)
