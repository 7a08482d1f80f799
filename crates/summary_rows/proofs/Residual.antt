-- What is left of an enumeration after one of its elements enumerates what comes after that one; so the first of the rest is the next.
use mathlib.Core.Path.{◌≡◌, refl, sym, ap, subst}
use mathlib.Core.Logic.{⊎_elim}
use mathlib.Core.Option.{some, none, none-ne-some, some-injective, some-ne-none}
use mathlib.Core.List.Memᴰ
use mathlib.Core.List.{List, [], ◌∷◌, ◌++◌}
use Rattle.spec.specs.Words.{◌∈◌}
use Rattle.spec.specs.Order.{First}
use Rattle.spec.proofs.Lists.Gathered.{first}
use Rattle.spec.proofs.Lists.Strict.{Strict, one_way}
use Rattle.spec.proofs.Lists.Rising.{Rising, rising-right, rising-across}
use Rattle.spec.proofs.Lists.Enumerate.{Enumerates, enumerates-first, enumerates-none}

module _ {A : Type 0} {Ok : A → Type 0} {Before : A → A → Type 0} (o : Strict Before) where
  pub first_of : (l : List A) → Enumerates Ok Before l → (a : A) → First Ok Before a → (rest : List A) × (l ≡ a ∷ rest)
  first_of l n a f = go l ((enumerates-first o l n a).1 f)
    where
      go : (l : List A) → first l ≡ some a → (rest : List A) × (l ≡ a ∷ rest)
      go [] e = absurd (none-ne-some a e)
      go (b ∷ l) e = (l, ap (λ c. c ∷ l) (some-injective b a e))

  pub none_of : (l : List A) → Enumerates Ok Before l → ((a : A) → Ok a → ⊥) → l ≡ []
  none_of l n f = go l ((enumerates-none l n).1 f)
    where
      go : (l : List A) → first l ≡ none → l ≡ []
      go [] e = refl
      go (b ∷ l) e = absurd (some-ne-none b e)

  pub rest-enumerates : (done : List A) (g : A) (rest : List A) → Enumerates Ok Before (done ++ (g ∷ rest)) → Enumerates (λ a. Ok a × Before g a) Before rest
  rest-enumerates done g rest n = record { sound = λ a i. (n.sound a (Memᴰ.append_right done (Memᴰ.tail i)), tail.0 a i); complete = complete; rising = tail.1 }
    where
      tail : Rising Before (g ∷ rest)
      tail = rising-right Before done (g ∷ rest) n.rising

      complete : (a : A) → Ok a × Before g a → a ∈ rest
      complete a y = ⊎_elim (λ i. absurd (one_way o a g (rising-across Before done (g ∷ rest) n.rising a g i (Memᴰ.head refl)) y.1)) here (Memᴰ.append_cases done (n.complete a y.0))
        where
          here : a ∈ (g ∷ rest) → a ∈ rest
          here (Memᴰ.head e) = absurd (o.never a (subst (λ z. Before z a) (sym e) y.1))
          here (Memᴰ.tail i) = i
