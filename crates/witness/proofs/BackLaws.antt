-- The second part of the witness: the first places of the way back, as the bytes that are written.
use mathlib.Core.Path.{◌≡◌, refl, sym, ap, ap₂, ◌∙◌}
use Rattle.std.specs.Prelude.{Option, Some, IsSome}
use mathlib.Core.List.{List, [], ◌∷◌, map}
use Prim.Native.Nat.{ℕ, suc, ◌+◌, ◌<◌, ◌≤◌}
use native.Mathlib.Omega.{arith}
use lib.ListN.{length, get_or, take, replicate, length-map}
use lib.Seq.{sets}
use Rattle.spec.specs.Words.{Term, Subgoal}
use Rattle.spec.specs.Book.{Book}
use Rattle.book_codes.specs.Question.{QuestionTarget, QuestionBound}
use Rattle.book_codes.specs.UsesLent.{SourceUsesOf}
use Rattle.book_codes.proofs.BackTask as task
use Rattle.placing.specs.FirstPlaces.{FirstPlaces}
use Rattle.witness.specs.WitnessBytes.{place_bytes, PlacesNeeds}
use Rattle.witness.specs.ThereTold.{Serves}
use Rattle.witness.specs.BackTold.{BackOf}
use Rattle.witness.proofs.Found.{FoundAt, found_at, is_found}

-- the places are the bytes that are written for them
places-written : (ks l : List ℕ) (i : ℕ) → ((j : ℕ) → j < length l → get_or ks (i + j) 0 ≡ get_or l j 0) → place_bytes ks i (length l) ≡ map suc l
places-written ks [] i named = refl
places-written ks (k ∷ l) i named =
    let z : i + 0 ≡ i = omega arith in
    let here : get_or ks i 0 + 1 ≡ suc k = omega (arith, ap (λ n. get_or ks n 0) z, named 0 (omega arith)) in
    ap₂ ◌∷◌ here (places-written ks l (suc i) (λ j h. let e : suc i + j ≡ i + suc j = omega arith in ap (λ n. get_or ks n 0) e ∙ named (suc j) (omega arith)))

module _ {book source widths lasts : List ℕ} (b : Book) (l : List (Subgoal (Term ℕ))) (o : SourceUsesOf book source widths lasts b l)
    {before after : List ℕ} {n : ℕ} (target : QuestionTarget book before after n) {bound : List ℕ} (heads : QuestionBound book bound) where
  own-long : length {A = ℕ} (take n (replicate 12 0)) ≡ n
  own-long = task.own-long b l o target heads

  few-targets : n ≤ 12
  few-targets = task.few-targets b l o target heads

  all-few : length widths ≤ 96
  all-few = task.all-few b l o target heads

  pub back-found-some : Serves b l → (r : Option (List ℕ)) → FirstPlaces (task.lent b l o target heads) bound r → IsSome r
  back-found-some serves r f = is_found r f (task.back-places b l o target heads serves.back)

  module _ {r : Option (List ℕ)} {ks : List ℕ} (f : FirstPlaces (task.lent b l o target heads) bound r) (is : r ≡ Some ks) where
    back_found : FoundAt (task.lent b l o target heads) bound ks
    back_found = found_at f is

    pub back-placed : {out : List ℕ} {at : ℕ} → at + 96 ≤ length out → PlacesNeeds out at ks (length widths)
    back-placed room = record {
      room = omega (arith, all-few);
      few = all-few;
      bytes = λ i h. omega (arith, back_found.reads i h, (back_found.first.holds.lands i h).within, own-long, few-targets);
    }

    written-are : place_bytes ks 0 (length widths) ≡ map suc back_found.places
    written-are =
        let e = back_found.first.holds.long in
        ap (place_bytes ks 0) (sym e)
        ∙ places-written ks back_found.places 0 (λ j h. let z : 0 + j ≡ j = omega arith in ap (λ i. get_or ks i 0) z ∙ back_found.reads j (omega arith))

    pub back-of : {out out' : List ℕ} {at : ℕ} → out' ≡ sets out at (place_bytes ks 0 (length widths)) → BackOf b l at out out' (length widths)
    back-of {out} {at = at} e = record {
      bytes = map suc back_found.places;
      first = task.back-firsts b l o target heads back_found.places back_found.first;
      long = sym (length-map back_found.places suc ∙ back_found.first.holds.long);
      few = all-few;
      written = e ∙ ap (sets out at) written-are;
    }
