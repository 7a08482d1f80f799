-- Some bytes give a containment mapping exactly where there is one: there, from the question to the expansion; back, the other way.
use mathlib.Core.Path.{refl, sym, subst}
use mathlib.Core.List.Memᴰ
use mathlib.Core.List.{List, [], ◌∷◌, map}
use Prim.Native.Nat.{ℕ}
use Rattle.spec.specs.Words.{◌∈◌, Term, con, Subgoal, Rule, becomes, each, Mapping}
use Rattle.spec.specs.Summaries.{Summaries, uses, joined, expansion}
use Rattle.spec.specs.Answer.{Sends, AtPlaces, AtPairs, There, Back, FirstThere, FirstBack}
use Rattle.spec.proofs.Lists.Counted.{place_of, place_in}
use Rattle.spec.proofs.Lists.Enumerate.{enumerates-some}
use Rattle.spec.proofs.Decided.Witness.{theres, theres-enumerate, backs, backs-enumerate}
use Rattle.spec.proofs.Lists.Joined.{joined_in, joined-out}

-- what is named stands there, and what stands there has a name
module _ {A : Type 0} where
  places-stand : (l : List A) (bytes : List ℕ) (bs : List A) → AtPlaces l bytes bs → (a : A) → a ∈ bs → a ∈ l
  places-stand l [] [] h a m = absurd (Memᴰ.not-nil m)
  places-stand l [] (b ∷ bs) h a m = absurd h
  places-stand l (n ∷ ns) [] h a m = absurd h
  places-stand l (n ∷ ns) (b ∷ bs) h a (Memᴰ.head e) = Memᴰ.cast e (place_in l n h.0)
  places-stand l (n ∷ ns) (b ∷ bs) h a (Memᴰ.tail i) = places-stand l ns bs h.1 a i

  places-for : (l bs : List A) → ((a : A) → a ∈ bs → a ∈ l) → (bytes : List ℕ) × AtPlaces l bytes bs
  places-for l [] h = ([], tt)
  places-for l (a ∷ bs) h = let n = place_of l (h a (Memᴰ.head refl)) in let r = places-for l bs (λ b i. h b (Memᴰ.tail i)) in (n.0 ∷ r.0, (n.1, r.1))

  pairs-stand : (ls : List (List A)) (bytes : List ℕ) (bs : List A) → AtPairs ls bytes bs → (a : A) → a ∈ bs → a ∈ joined ls
  pairs-stand ls [] [] h a m = absurd (Memᴰ.not-nil m)
  pairs-stand ls [] (b ∷ bs) h a m = absurd h
  pairs-stand ls (n ∷ []) bs h a m = absurd h
  pairs-stand ls (n ∷ k ∷ ns) [] h a m = absurd h
  pairs-stand ls (n ∷ k ∷ ns) (b ∷ bs) h a (Memᴰ.head e) = Memᴰ.cast e (joined_in h.0.0 ls (place_in ls n h.0.1) (place_in h.0.0 k h.0.2))
  pairs-stand ls (n ∷ k ∷ ns) (b ∷ bs) h a (Memᴰ.tail i) = pairs-stand ls ns bs h.1 a i

  pairs-for : (ls : List (List A)) (bs : List A) → ((a : A) → a ∈ bs → a ∈ joined ls) → (bytes : List ℕ) × AtPairs ls bytes bs
  pairs-for ls [] h = ([], tt)
  pairs-for ls (a ∷ bs) h =
      let w = joined-out ls (h a (Memᴰ.head refl)) in
      let n = place_of ls w.1 in
      let k = place_of w.0 w.2 in
      let r = pairs-for ls bs (λ b i. h b (Memᴰ.tail i)) in
      (n.0 ∷ k.0 ∷ r.0, ((w.0, n.1, k.1), r.1))

-- a mapping sends the subgoals to the body's
module _ {X Y : Type 0} (q : Rule X) (r : Rule Y) where
  sends-maps : (targets : List (Subgoal (Term Y))) → Sends q r.head targets → ((f : Subgoal (Term Y)) → f ∈ targets → f ∈ r.body) → Mapping q r
  sends-maps targets m h = record { value = m.value; gives = m.gives; holds = λ g i. h (each (becomes con m.value) g) (subst (λ l. each (becomes con m.value) g ∈ l) m.sends (Memᴰ.map (each (becomes con m.value)) i)) }

  maps-sends : Mapping q r → (targets : List (Subgoal (Term Y))) × Sends q r.head targets × ((f : Subgoal (Term Y)) → f ∈ targets → f ∈ r.body)
  maps-sends m = (map (each (becomes con m.value)) q.body, record { value = m.value; gives = m.gives; sends = refl }, stands)
    where
      stands : (f : Subgoal (Term Y)) → f ∈ map (each (becomes con m.value)) q.body → f ∈ r.body
      stands f i = let w = Memᴰ.of_map (each (becomes con m.value)) q.body i in Memᴰ.cast (sym w.2) (m.holds w.0 w.1)

module _ (s : Summaries) (q r : Rule ℕ) where
  pub there-maps : (bytes : List ℕ) → There s q r bytes → Mapping q (expansion s r)
  there-maps bytes t = sends-maps q (expansion s r) t.targets t.mapping (pairs-stand (uses s 0 r.body) bytes t.targets t.named)

  pub back-maps : (bytes : List ℕ) → Back s q r bytes → Mapping (expansion s r) q
  back-maps bytes t = sends-maps (expansion s r) q t.targets t.mapping (places-stand q.body bytes t.targets t.named)

  -- where there is a mapping, there is a first witness of it
  pub maps-there : Mapping q (expansion s r) → (bytes : List ℕ) × FirstThere s q r bytes
  maps-there m =
      let t = maps-sends q (expansion s r) m in
      let b = pairs-for (uses s 0 r.body) t.0 t.2 in
      enumerates-some (theres s q r) (theres-enumerate s q r) b.0 record { targets = t.0; named = b.1; mapping = t.1 }

  pub maps-back : Mapping (expansion s r) q → (bytes : List ℕ) × FirstBack s q r bytes
  maps-back m =
      let t = maps-sends (expansion s r) q m in
      let b = places-for q.body t.0 t.2 in
      enumerates-some (backs s q r) (backs-enumerate s q r) b.0 record { targets = t.0; named = b.1; mapping = t.1 }
