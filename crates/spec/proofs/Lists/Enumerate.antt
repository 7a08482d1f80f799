-- A list of just those with a property, ascending by an order: its first element is the first of them all.
use mathlib.Core.Path.{◌≡◌, refl, sym, ap, subst}
use mathlib.Core.Logic.{◌⊎◌, inl, inr, ◌↔◌}
use mathlib.Core.Option.{some, none, some-ne-none, none-ne-some, some-injective}
use mathlib.Core.List.Memᴰ
use mathlib.Core.List.{List, [], ◌∷◌}
use Rattle.spec.specs.Words.{◌∈◌}
use Rattle.spec.specs.Order.{First}
use Rattle.spec.proofs.Lists.Gathered.{first}
use Rattle.spec.proofs.Lists.Strict.{Strict, first-unique}
use Rattle.spec.proofs.Lists.Rising.{Rising}

pub record Enumerates {A : Type 0} (Ok : A → Type 0) (Before : A → A → Type 0) (l : List A) : Type 0 where
  pub sound : (a : A) → a ∈ l → Ok a
  pub complete : (a : A) → Ok a → a ∈ l
  pub rising : Rising Before l

module _ {A : Type 0} {Ok : A → Type 0} {Before : A → A → Type 0} where
  first-is : (l : List A) → Enumerates Ok Before l → (a : A) → first l ≡ some a → First Ok Before a
  first-is [] n a e = absurd (none-ne-some a e)
  first-is (b ∷ l) n a e = subst (First Ok Before) (some-injective b a e) record { holds = n.sound b (Memᴰ.head refl); least = λ c ok. least c (n.complete c ok) }
    where
      least : (c : A) → c ∈ (b ∷ l) → (b ≡ c) ⊎ Before b c
      least c (Memᴰ.head p) = inl (sym p)
      least c (Memᴰ.tail i) = inr (n.rising.0 c i)

  is-first : Strict Before → (l : List A) → Enumerates Ok Before l → (a : A) → First Ok Before a → first l ≡ some a
  is-first o [] n a f = absurd (Memᴰ.not-nil (n.complete a f.holds))
  is-first o (b ∷ l) n a f = ap some (first-unique o b a (first-is (b ∷ l) n b refl) f)

  -- the first element is the first by the order, and none only where none has the property
  pub enumerates-first : Strict Before → (l : List A) → Enumerates Ok Before l → (a : A) → (first l ≡ some a) ↔ First Ok Before a
  enumerates-first o l n a = (first-is l n a, is-first o l n a)

  pub enumerates-none : (l : List A) → Enumerates Ok Before l → (first l ≡ none) ↔ ((a : A) → Ok a → ⊥)
  enumerates-none [] n = (λ e a ok. Memᴰ.not-nil (n.complete a ok), λ h. refl)
  enumerates-none (b ∷ l) n = (λ e. absurd (some-ne-none b e), λ h. absurd (h b (n.sound b (Memᴰ.head refl))))

  -- where one has the property there is a first
  pub enumerates-some : (l : List A) → Enumerates Ok Before l → (a : A) → Ok a → (b : A) × First Ok Before b
  enumerates-some [] n a ok = absurd (Memᴰ.not-nil (n.complete a ok))
  enumerates-some (b ∷ l) n a ok = (b, first-is (b ∷ l) n b refl)
