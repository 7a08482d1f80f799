-- A book has at most one refusal, in number and place, and none if nothing turns it down.
use mathlib.Core.Path.{◌≡◌, refl, sym, ◌∙◌, subst}
use mathlib.Core.Logic.{◌⊎◌, inl, inr}
use mathlib.Core.List.{List}
use Prim.Native.Nat.{ℕ, ◌<◌}
use native.Mathlib.Omega.{arith}
use native.Mathlib.Decide.{dec_lt}
use Rattle.spec.specs.declared.Reason.{Reason}
use Rattle.spec.specs.Refusals.{of_book, of_entry, Fault2, Fault3, Fault4, Fault5, Fault6, Fault7, Fault8, SoundEntry, Reached, Refusal, two, three, four, five, six, seven, eight, Passes}
use Rattle.spec.proofs.Bytes.BookUnique.{reads-unique}

-- This answer if A holds, and else what X says.
abbrev Else : {R : Type 0} → Type 0 → R → (R → Type 0) → R → Type 0
Else A a X r = (A × (r ≡ a)) ⊎ ((A → ⊥) × X r)

-- Of things said in such an order only one is said.
else-one : {R : Type 0} (A : Type 0) (a : R) (X : R → Type 0) → ((r s : R) → X r → X s → r ≡ s) → (r s : R) → Else A a X r → Else A a X s → r ≡ s
else-one A a X h r s (inl x) (inl y) = x.1 ∙ sym y.1
else-one A a X h r s (inl x) (inr y) = absurd (y.0 x.0)
else-one A a X h r s (inr x) (inl y) = absurd (x.0 y.0)
else-one A a X h r s (inr x) (inr y) = h r s x.1 y.1

module _ (book : List ℕ) where
  -- "entry by entry 6, 7, 8"
  abbrev Late : ℕ → ℕ → Type 0
  Late i n = Fault8 book i × (n ≡ 8)

  abbrev Numbered : ℕ → ℕ → Type 0
  Numbered i = Else (Fault6 book i) 6 (Else (Fault7 book i) 7 (Late i))

  abbrev AtEntry : Reason → Type 0
  AtEntry r = Reached book r.place × Numbered r.place r.number

  -- "Order: 1 to 5, then entry by entry"
  abbrev From5 : Reason → Type 0
  From5 = Else (Fault5 book) (of_book 5) AtEntry

  abbrev From4 : Reason → Type 0
  From4 = Else (Fault4 book) (of_book 4) From5

  abbrev From3 : Reason → Type 0
  From3 = Else (Fault3 book) (of_book 3) From4

  abbrev Ordered : Reason → Type 0
  Ordered = Else (Fault2 book) (of_book 2) From3

  number-one : (i n m : ℕ) → Numbered i n → Numbered i m → n ≡ m
  number-one i = else-one (Fault6 book i) 6 (Else (Fault7 book i) 7 (Late i)) (else-one (Fault7 book i) 7 (Late i) (λ n m x y. x.1 ∙ sym y.1))

  module _ (i : ℕ) (e : SoundEntry book i) where
    not-6 : Fault6 book i → ⊥
    not-6 f = f e.rule e.reads

    not-7 : Fault7 book i → ⊥
    not-7 f = f.2 (rw (reads-unique book i f.0 e.rule f.1 e.reads) e.safe)

    not-8 : Fault8 book i → ⊥
    not-8 f = f.1.2 (rw (reads-unique book i f.1.0 e.rule f.1.1 e.reads) (e.plain f.0))

    not-numbered : (n : ℕ) → Numbered i n → ⊥
    not-numbered n (inl x) = not-6 x.0
    not-numbered n (inr (_, inl x)) = not-7 x.0
    not-numbered n (inr (_, inr (_, x))) = not-8 x.0

  entry-one : (r s : Reason) → AtEntry r → AtEntry s → r ≡ s
  entry-one r s x y = compare (dec_lt r.place s.place) (dec_lt s.place r.place)
    where
      compare : Dec (r.place < s.place) → Dec (s.place < r.place) → r ≡ s
      compare (yes l) o = absurd (not-numbered r.place (y.0.before r.place x.0.rule l) r.number x.1)
      compare (no f) (yes l) = absurd (not-numbered s.place (x.0.before s.place y.0.rule l) s.number y.1)
      compare (no f) (no g) =
          let place : r.place ≡ s.place = omega arith in
          let number : r.number ≡ s.number = number-one s.place r.number s.number (subst (λ i. Numbered i r.number) place x.1) y.1 in
          λ j. record { number = number j; place = place j }

  ordered-one : (r s : Reason) → Ordered r → Ordered s → r ≡ s
  ordered-one =
      else-one (Fault2 book) (of_book 2) From3 (else-one (Fault3 book) (of_book 3) From4 (else-one (Fault4 book) (of_book 4) From5 (else-one (Fault5 book) (of_book 5) AtEntry entry-one)))

  -- An entry is reached only past 2 to 5.
  at_entry : (i n : ℕ) → Reached book i → Numbered i n → Ordered (of_entry n i)
  at_entry i n r x =
      inr (r.loads.size, inr ((λ f. let few = r.loads.few in omega arith), inr ((λ f. f r.loads.no_gaps), inr ((λ f. f r.loads.relations), (r, x)))))

  ordered : {r : Reason} → Refusal book r → Ordered r
  ordered (two f) = inl (f, refl)
  ordered (three a f) = inr (a, inl (f, refl))
  ordered (four a b f) = inr (a, inr (b, inl (f, refl)))
  ordered (five a b c f) = inr (a, inr (b, inr ((λ g. g c), inl (f, refl))))
  ordered (six {i} r f) = at_entry i 6 r (inl (f, refl))
  ordered (seven {i} r f) = at_entry i 7 r (inr ((λ g. g f.0 f.1), inl (f, refl)))
  ordered (eight {i} r s f) = at_entry i 8 r (inr ((λ g. g f.1.0 f.1.1), inr ((λ g. g.2 (s g.0 g.1)), (f, refl))))

  pub refused-once : {r s : Reason} → Refusal book r → Refusal book s → r ≡ s
  refused-once {r} {s} x y = ordered-one r s (ordered x) (ordered y)

  pub passes-unrefused : {r : Reason} → Passes book → Refusal book r → ⊥
  passes-unrefused q (two f) = q.loads.size f
  passes-unrefused q (three a f) = let few = q.loads.few in omega arith
  passes-unrefused q (four a b f) = f q.loads.no_gaps
  passes-unrefused q (five a b c f) = f q.loads.relations
  passes-unrefused q (six {i} r f) = not-6 i (q.sound i r.rule r.within) f
  passes-unrefused q (seven {i} r f) = not-7 i (q.sound i r.rule r.within) f
  passes-unrefused q (eight {i} r s f) = not-8 i (q.sound i r.rule r.within) f
