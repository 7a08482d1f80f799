-- What is first by one order is first by another, carried over by what keeps the order.
use mathlib.Core.Path.{◌≡◌, sym, ap, subst}
use mathlib.Core.Logic.{◌⊎◌, inl, inr, ◌↔◌}
use Rattle.spec.specs.Order.{First}
use Rattle.spec.proofs.Lists.Strict.{Strict, one_way}

module _ {A B : Type 0} {Ok : A → Type 0} {Ok' : B → Type 0} {Before : A → A → Type 0} {Before' : B → B → Type 0} (o : Strict Before) (o' : Strict Before') (e : A → B)
    (keeps : (a b : A) → Before a b → Before' (e a) (e b)) (forth : (a : A) → Ok a → Ok' (e a)) (back : (b : B) → Ok' b → (a : A) × (e a ≡ b) × Ok a) where
  -- one that is not after another in the image is not after it before
  reflects : (a b : A) → (e a ≡ e b) ⊎ Before' (e a) (e b) → (a ≡ b) ⊎ Before a b
  reflects a b h = go (o.compare a b) h
    where
      go : Before a b ⊎ ((a ≡ b) ⊎ Before b a) → (e a ≡ e b) ⊎ Before' (e a) (e b) → (a ≡ b) ⊎ Before a b
      go (inl l) h = inr l
      go (inr (inl p)) h = inl p
      go (inr (inr l)) (inl p) = absurd (o'.never (e a) (subst (λ z. Before' z (e a)) (sym p) (keeps b a l)))
      go (inr (inr l)) (inr k) = absurd (one_way o' (e a) (e b) k (keeps b a l))

  one-to-one : (a b : A) → e a ≡ e b → a ≡ b
  one-to-one a b p = go (reflects a b (inl p))
    where
      go : (a ≡ b) ⊎ Before a b → a ≡ b
      go (inl q) = q
      go (inr l) = absurd (o'.never (e a) (subst (Before' (e a)) (sym p) (keeps a b l)))

  pub carried-is : (a : A) → Ok a ↔ Ok' (e a)
  carried-is a = (forth a, λ h. let w = back (e a) h in subst Ok (one-to-one w.0 a w.1) w.2)

  pub carried_first : (a : A) → First Ok Before a ↔ First Ok' Before' (e a)
  carried_first a = (
    λ f. record { holds = forth a f.holds; least = λ b h. let w = back b h in subst (λ z. (e a ≡ z) ⊎ Before' (e a) z) w.1 (over w.0 (f.least w.0 w.2)) },
    λ f. record { holds = (carried-is a).1 f.holds; least = λ b h. reflects a b (f.least (e b) (forth b h)) },
  )
    where
      over : (b : A) → (a ≡ b) ⊎ Before a b → (e a ≡ e b) ⊎ Before' (e a) (e b)
      over b (inl p) = inl (ap e p)
      over b (inr l) = inr (keeps a b l)

  pub carried_none : ((a : A) → Ok a → ⊥) ↔ ((b : B) → Ok' b → ⊥)
  carried_none = (λ none b h. let w = back b h in none w.0 w.2, λ none a h. none (e a) (forth a h))
