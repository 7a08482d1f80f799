-- Which codes of subgoals are terms' codes.
use mathlib.Core.Path.{◌≡◌, refl, sym, subst}
use mathlib.Core.Logic.{◌↔◌, ◌⊎◌, inl, inr, ⊎_elim}
use mathlib.Core.List.Memᴰ
use mathlib.Core.List.{List, [], ◌∷◌, map}
use Prim.Native.Nat.{ℕ, zero, suc, ◌<◌, ◌≤◌}
use native.Mathlib.Omega.{arith}
use lib.ListN.{length, length-map}
use Rattle.spec.specs.Words.{◌∈◌, Term, var, con, Subgoal}
use Rattle.codes.specs.Code.{variable_tag, term_code, padded, subgoal_codes, codes_of}
use Rattle.rule_codes.specs.InOrder.{TermAmong}
use Rattle.rule_codes.specs.BodyTerms.{CodeOf}
use Rattle.spec.proofs.Lists.Gathered.{map-in}

padded-out : (n : ℕ) (l : List ℕ) (w : ℕ) → w ∈ padded n l → (w ∈ l) ⊎ (w ≡ 1)
padded-out zero l w i = absurd (Memᴰ.not-nil i)
padded-out (suc n) [] w (Memᴰ.head e) = inr e
padded-out (suc n) [] w (Memᴰ.tail i) = padded-out n [] w i
padded-out (suc n) (x ∷ l) w (Memᴰ.head e) = inl (Memᴰ.head e)
padded-out (suc n) (x ∷ l) w (Memᴰ.tail i) = ⊎_elim (λ j. inl (Memᴰ.tail j)) inr (padded-out n l w i)

padded-in : (n : ℕ) (l : List ℕ) (w : ℕ) → length l ≤ n → w ∈ l → w ∈ padded n l
padded-in zero (x ∷ l) w h i = absurd (omega arith)
padded-in (suc n) (x ∷ l) w h (Memᴰ.head e) = Memᴰ.head e
padded-in (suc n) (x ∷ l) w h (Memᴰ.tail i) = Memᴰ.tail (padded-in n l w (omega arith) i)
padded-in zero [] w h i = elim i [ ]
padded-in (suc n) [] w h i = elim i [ ]

pub above_tag : (t : Term ℕ) → variable_tag ≤ term_code t
above_tag (var x) = omega arith
above_tag (con c) = omega arith

-- Subgoals with small relation numbers and no more than eight terms.
pub record SmallSubgoals (gs : List (Subgoal (Term ℕ))) : Type 0 where
  pub relation : (g : Subgoal (Term ℕ)) → g ∈ gs → g.relation < variable_tag
  pub terms : (g : Subgoal (Term ℕ)) → g ∈ gs → length g.terms ≤ 8

small-tail : {g : Subgoal (Term ℕ)} {gs : List (Subgoal (Term ℕ))} → SmallSubgoals (g ∷ gs) → SmallSubgoals gs
small-tail s = record { relation = λ g i. s.relation g (Memᴰ.tail i); terms = λ g i. s.terms g (Memᴰ.tail i) }

later : {g : Subgoal (Term ℕ)} {gs : List (Subgoal (Term ℕ))} {w : ℕ} → CodeOf gs w → CodeOf (g ∷ gs) w
later o = record { goal = o.goal; among = Memᴰ.tail o.among; term = o.term; stands = o.stands; is = o.is }

term-out : (gs : List (Subgoal (Term ℕ))) → SmallSubgoals gs → (w : ℕ) → w ∈ codes_of term_code gs → variable_tag ≤ w → CodeOf gs w
term-out [] s w i h = absurd (Memᴰ.not-nil i)
term-out (g ∷ gs) s w i h = ⊎_elim here (λ j. later (term-out gs (small-tail s) w j h)) (Memᴰ.append_cases (subgoal_codes term_code g) i)
  where
    term : w ∈ map term_code g.terms → CodeOf (g ∷ gs) w
    term j = let t = Memᴰ.of_map term_code g.terms j in record { goal = g; among = Memᴰ.head refl; term = t.0; stands = t.1; is = sym t.2 }

    here : w ∈ subgoal_codes term_code g → CodeOf (g ∷ gs) w
    here (Memᴰ.head e) = let small = s.relation g (Memᴰ.head refl) in absurd (omega arith)
    here (Memᴰ.tail j) = ⊎_elim term (λ e. absurd (omega arith)) (padded-out 8 (map term_code g.terms) w j)

term_in : (gs : List (Subgoal (Term ℕ))) → SmallSubgoals gs → (g : Subgoal (Term ℕ)) → g ∈ gs → (t : Term ℕ) → t ∈ g.terms → term_code t ∈ codes_of term_code gs
term_in (k ∷ gs) s g (Memᴰ.head e) t j =
    Memᴰ.append_left (codes_of term_code gs)
    (Memᴰ.tail
    (padded-in 8 (map term_code k.terms) (term_code t) (rw length-map (s.terms k (Memᴰ.head refl)))
    (map-in term_code k.terms t (subst (λ h. t ∈ h.terms) e j))))
term_in (k ∷ gs) s g (Memᴰ.tail i) t j = Memᴰ.append_right (subgoal_codes term_code k) (term_in gs (small-tail s) g i t j)
term_in [] s g x3 t j = elim x3 [ ]

pub terms-among : (gs : List (Subgoal (Term ℕ))) → SmallSubgoals gs → (w : ℕ) → TermAmong (codes_of term_code gs) w ↔ CodeOf gs w
terms-among gs s w =
    (λ h. term-out gs s w h.0 h.1, λ o. rw o.is (term_in gs s o.goal o.among o.term o.stands, above_tag o.term))
