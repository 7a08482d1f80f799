-- The first part of the witness: the first places of the way there, as the pairs of bytes that are written.
use mathlib.Core.Path.{◌≡◌, refl, sym, ap, ap₂, ◌∙◌}
use mathlib.Core.Bool.{Bool, true, false, cond}
use Rattle.std.specs.Prelude.{Option, Some, IsSome}
use mathlib.Core.List.{List, [], ◌∷◌}
use Prim.Native.Nat.{ℕ, suc, ◌+◌, ◌*◌, ◌-◌, ◌<◌, ◌≤◌}
use native.Mathlib.Omega.{arith}
use native.Mathlib.Decide.{dec_lt}
use lib.Dec.{ltb}
use lib.ListN.{length, get_or, take, get_or-eq_default}
use lib.Seq.{sets}
use Rattle.spec.specs.Words.{Term, Subgoal}
use Rattle.spec.specs.Summaries.{Own, uses, joined}
use Rattle.spec.specs.Book.{Book, admitted_of}
use Rattle.spec.specs.BookLayout.{question_most}
use Rattle.book_codes.specs.Question.{QuestionSource, QuestionBound}
use Rattle.book_codes.specs.UsesLent.{InnerUsesOf}
use Rattle.book_codes.proofs.Read.{insides-long, insides-at}
use Rattle.book_codes.proofs.ThereTask as task
use Rattle.placing.specs.FirstPlaces.{FirstPlaces}
use Rattle.search_meaning.specs.Uses.{use_at, within_at, pairs_of}
use Rattle.search_meaning.proofs.Owners.{owners-at}
use Rattle.witness.specs.WitnessBytes.{pair_bytes, PairsNeeds}
use Rattle.witness.specs.ThereTold.{Serves, ThereOf}
use Rattle.witness.proofs.Found.{FoundAt, found_at, is_found}

-- the pairs of places are the bytes that are written for them
pairs-written : {A : Type 0} (ls : List (List A)) (ks own inner : List ℕ) (l : List ℕ) (i : ℕ)
    → ((k : ℕ) → k < length (joined ls) → (get_or own k 0 ≡ use_at ls k) × (get_or inner k 0 ≡ within_at ls k))
    → ((j : ℕ) → j < length l → (get_or ks (i + j) 0 ≡ get_or l j 0) × (get_or l j 0 < length (joined ls)))
    → pair_bytes ks own inner i (length l) ≡ pairs_of ls l
pairs-written ls ks own inner [] i at named = refl
pairs-written ls ks own inner (k ∷ l) i at named =
    let z : i + 0 ≡ i = omega arith in
    let here = named 0 (omega arith) in
    let it : get_or ks i 0 ≡ k = ap (λ n. get_or ks n 0) (sym z) ∙ here.0 in
    let o : get_or own (get_or ks i 0) 0 + 1 ≡ suc (use_at ls k) = omega (arith, ap (λ n. get_or own n 0) it, (at k here.1).0) in
    let p : get_or inner (get_or ks i 0) 0 + 1 ≡ suc (within_at ls k) = omega (arith, ap (λ n. get_or inner n 0) it, (at k here.1).1) in
    let rest = pairs-written ls ks own inner l (suc i) at (λ j h. let w = named (suc j) (omega arith) in let e : suc i + j ≡ i + suc j = omega arith in (ap (λ n. get_or ks n 0) e ∙ w.0, w.1)) in
    ap₂ (λ x y. x ∷ y ∷ pair_bytes ks own inner (suc i) (length l)) o p ∙ ap (λ m. suc (use_at ls k) ∷ suc (within_at ls k) ∷ m) rest

pub pairs-long : {A : Type 0} (ls : List (List A)) (l : List ℕ) → length (pairs_of ls l) ≡ 2 * length l
pairs-long ls [] = refl
pairs-long ls (k ∷ l) = omega (arith, pairs-long ls l)

-- a place in a use is no later than among all
within-most : {A : Type 0} (ls : List (List A)) (k : ℕ) → within_at ls k ≤ k
within-most [] k = omega arith
within-most (m ∷ ls) k = go (ltb k (length m)) (within-most ls (k - length m))
  where
    go : (x : Bool) → within_at ls (k - length m) ≤ k - length m → cond x k (within_at ls (k - length m)) ≤ k
    go true rest = omega arith
    go false rest = omega arith

module _ {book target own inner : List ℕ} (b : Book) (l : List (Subgoal (Term ℕ))) (o : InnerUsesOf book target own inner b l)
    {before after old new : List ℕ} {n : ℕ} (source : QuestionSource book before after old new n) {bound : List ℕ} (heads : QuestionBound book bound) where
  abbrev ls : List (List (Subgoal (Term (Own ℕ))))
  ls = uses (admitted_of b) 0 l

  pub there-found-some : Serves b l → (r : Option (List ℕ)) → FirstPlaces (task.lent b l o.targets source heads) bound r → IsSome r
  there-found-some serves r f = is_found r f (task.there-places b l o.targets source heads serves.there)

  module _ {r : Option (List ℕ)} {ks : List ℕ} (f : FirstPlaces (task.lent b l o.targets source heads) bound r) (is : r ≡ Some ks) where
    pub there-found : FoundAt (task.lent b l o.targets source heads) bound ks
    there-found = found_at f is

    place-within : (i : ℕ) → i < n → (get_or ks i 0 ≡ get_or there-found.places i 0) × (get_or there-found.places i 0 < length own)
    place-within i h = let h' : i < length (take n new) = rw (task.goals-are b l o.targets source heads) h in (there-found.reads i h', (there-found.first.holds.lands i h').within)

    insides-same : length inner ≡ length own
    insides-same = ap length o.inners ∙ insides-long ls ∙ sym (task.owned b l o.targets source heads)

    inner-at : (k : ℕ) → k < length (joined ls) → get_or inner k 0 ≡ within_at ls k
    inner-at k h = ap (λ m. get_or m k 0) o.inners ∙ insides-at ls k h

    inner-small : (k : ℕ) → get_or inner k 0 < 255
    inner-small k = elim (dec_lt k (length (joined ls))) [
      | yes h ↦ omega (arith, inner-at k h, within-most ls k, task.all-few b l o.targets source heads)
      | no h ↦ omega (arith, get_or-eq_default inner 0 {n = k} (omega (arith, task.owned b l o.targets source heads, insides-same)))
    ]

    pub there-paired : {out : List ℕ} → 2 * question_most ≤ length out → PairsNeeds out ks own inner n
    there-paired room = record {
      room = omega (arith, task.few-goals b l o.targets source heads);
      few = omega (arith, task.few-goals b l o.targets source heads);
      targets = λ i h. let p = place-within i h in (omega (arith, p.0, p.1), omega (arith, p.0, p.1, insides-same));
      bytes = λ k. (omega (arith, task.own-small b l o.targets source heads k), inner-small k);
    }

    places-long : length there-found.places ≡ n
    places-long = there-found.first.holds.long ∙ task.goals-are b l o.targets source heads

    written-are : pair_bytes ks own inner 0 n ≡ pairs_of ls there-found.places
    written-are =
        ap (pair_bytes ks own inner 0) (sym places-long)
        ∙ pairs-written ls ks own inner there-found.places 0 (λ k h. (ap (λ m. get_or m k 0) o.targets.owns ∙ omega (arith, owners-at 0 ls k h), inner-at k h))
        (λ j h. let p = place-within j (omega (arith, places-long)) in let z : 0 + j ≡ j = omega arith in (ap (λ i. get_or ks i 0) z ∙ p.0, omega (arith, p.1, task.owned b l o.targets source heads)))

    pub there-of : {out out' : List ℕ} → out' ≡ sets out 0 (pair_bytes ks own inner 0 n) → ThereOf b l out out' (2 * n)
    there-of {out} e = record {
      bytes = pairs_of ls there-found.places;
      first = task.there-firsts b l o.targets source heads there-found.places there-found.first;
      long = omega (arith, pairs-long ls there-found.places, places-long);
      few = omega (arith, task.few-goals b l o.targets source heads);
      written = e ∙ ap (sets out 0) written-are;
    }
