-- A row that another dominates can be left out.
use mathlib.Core.Path.{◌≡◌, refl, sym, ap, ◌∙◌, subst}
use mathlib.Core.Logic.{◌⊎◌, inl, inr, ⊎_elim, ◌↔◌}
use mathlib.Core.Bool.{Bool, true, false, cond}
use mathlib.Core.List.Memᴰ
use mathlib.Core.List.{map}
use Prim.Native.Nat.{ℕ, ◌<◌}
use native.Mathlib.Omega.{arith}
use native.Mathlib.Decide.{ℕ_discrete}
use lib.Dec.{eqb, eqb→eq}
use lib.ListN.{length, get_or, length-map}
use borrow.Author.Tests.{eq-eqb, ne_eqb}
use Rattle.spec.specs.Words.{◌∈◌, Term, var, con, Subgoal, Rule, becomes, each}
use Rattle.spec.specs.Summaries.{Summaries, Own, fresh, kept, in_place}
use Rattle.spec.proofs.Lists.Tests.{passes, fails, any, any-sound, any-complete}
use Rattle.spec.proofs.Lists.At.{get_or-in, in-get_or, without, without_in, without-out, without-few}
use Rattle.spec.proofs.Decided.Rows.{RowList}
use Rattle.containment.proofs.Carry.{subgoal-same}
use Rattle.containment.proofs.Expand.{extended}
use Rattle.choice_theory.specs.Numbered.{nothing, row_at, InChosenUse, WorksOn}
use Rattle.choice_theory.proofs.Moved.{same-use}
use Rattle.choice_theory.proofs.Works.{moved}
use Rattle.choice_theory.specs.Can.{CanBy}
use Rattle.choice_theory.proofs.Sets.{can-more}
use Rattle.choice_theory.specs.Dominates.{Dominates}

-- Dominance by places in the two uses.
pub dominates-at : (s : Summaries) (rows : RowList) (d r : ℕ) (value : ℕ → Term (Own ℕ))
    → ((i : ℕ) → i < length (in_place s r (row_at rows r)) → (k : ℕ) × (k < length (in_place s d (row_at rows d)))
    × (each (becomes con (extended kept (λ u. value))) (get_or (in_place s r (row_at rows r)) i nothing) ≡ get_or (in_place s d (row_at rows d)) k nothing))
    → Dominates s rows d r
dominates-at s rows d r value h = record {
  value = value;
  holds = λ c m. let i = in-get_or nothing (in_place s r (row_at rows r)) m in
      let k = h i.0 i.1 in
      Memᴰ.cast (ap (each (becomes con (extended kept (λ u. value)))) (sym i.2) ∙ k.2) (get_or-in nothing (in_place s d (row_at rows d)) k.0 k.1);
}

module _ (s : Summaries) (q : Rule ℕ) (rows : RowList) (d r : ℕ) (dom : Dominates s rows d r) (there : d < length rows) where
  -- Row r's own variables go where row d stands for them, those of other rows stay.
  abbrev ξ : Own ℕ → Term (Own ℕ)
  ξ = extended kept (λ u x. cond (eqb u r) (dom.value x) (var (fresh u x)))

  in-r : (c : Subgoal (Term (Own ℕ))) → c ∈ in_place s r (row_at rows r) → each (becomes con ξ) c ∈ in_place s d (row_at rows d)
  in-r c m = Memᴰ.cast (same-use con s (row_at rows r) r ξ (extended kept (λ u. dom.value)) (λ x. refl) (λ x. ap (λ b. cond b (dom.value x) (var (fresh r x))) (eq-eqb r r refl)) c m) (dom.holds c m)

  in-other : (u : ℕ) → (u ≡ r → ⊥) → (c : Subgoal (Term (Own ℕ))) → c ∈ in_place s u (row_at rows u) → each (becomes con ξ) c ∈ in_place s u (row_at rows u)
  in-other u n c m = Memᴰ.cast (same-use con s (row_at rows u) u ξ var (λ x. refl) (λ x. ap (λ b. cond b (dom.value x) (var (fresh u x))) (ne_eqb u r n)) c m ∙ subgoal-same c) m

  -- Where the dominating row is chosen, the other need not be.
  pub works-without : {Chosen Fewer : ℕ → Type 0} → Fewer d → ((u : ℕ) → u < length rows → (u ≡ r → ⊥) → Chosen u → Fewer u) → WorksOn s q rows Chosen → WorksOn s q rows Fewer
  works-without {Chosen} {Fewer} has rest = moved q ξ (λ x. refl) (λ c l. go c l (ℕ_discrete l.row r))
    where
      go : (c : Subgoal (Term (Own ℕ))) (l : InChosenUse s rows Chosen c) → Dec (l.row ≡ r) → InChosenUse s rows Fewer (each (becomes con ξ) c)
      go c l (yes e) = record { row = d; within = there; chosen = has; inside = in-r c (subst (λ u. c ∈ in_place s u (row_at rows u)) e l.inside) }
      go c l (no n) = record { row = l.row; within = l.within; chosen = rest l.row l.within n l.chosen; inside = in-other l.row n c l.inside }

  module _ {used may may' : ℕ → Type 0} {b : ℕ} (unlike : d ≡ r → ⊥) (less : (u : ℕ) → u < length rows → may' u → may u) (rest : (u : ℕ) → u < length rows → (u ≡ r → ⊥) → may u → may' u) where
    -- The dominating row is used: the other is left out.
    beside-used : used d → CanBy s q rows used may b → CanBy s q rows used may' b
    beside-used has o = record {
      more = without r o.more;
      among = λ u i. let w = without-out r o.more u i in let k = o.among u w.0 in (k.0, rest u k.0 w.1 k.1);
      few = omega (arith, o.few, without-few r o.more);
      works = works-without (inl has) (λ u h n. ⊎_elim inl (λ i. inr (without_in r o.more u i n))) o.works;
    }

    -- It may be used: it takes the other's place.
    beside-may : may d → CanBy s q rows used may b → CanBy s q rows used may' b
    beside-may has o = go (any (eqb r) o.more) refl
      where
        instead : ℕ → ℕ
        instead u = cond (eqb u r) d u

        allowed : (u : ℕ) → Dec (u ≡ r) → u < length rows → may u → (instead u < length rows) × may' (instead u)
        allowed u (yes e) h m = rw (eq-eqb u r e) (there, rest d there unlike has)
        allowed u (no n) h m = rw (ne_eqb u r n) (h, rest u h n m)

        go : (t : Bool) → any (eqb r) o.more ≡ t → CanBy s q rows used may' b
        go false e = record {
          more = o.more;
          among = λ u i. let k = o.among u i in (k.0, rest u k.0 (λ p. fails e (any-complete (eqb r) o.more u i (rw (eq-eqb r u (sym p)) tt))) k.1);
          few = o.few;
          works = o.works;
        }
        go true e = record {
          more = map instead o.more;
          among = λ v i. let w = Memᴰ.of_map instead o.more i in let k = o.among w.0 w.1 in subst (λ z. (z < length rows) × may' z) w.2 (allowed w.0 (ℕ_discrete w.0 r) k.0 k.1);
          few = rw (length-map o.more instead) o.few;
          works = works-without (inr taken) (λ u h n. ⊎_elim inl (λ i. inr (Memᴰ.cast (ap (λ b. cond b d u) (sym (ne_eqb u r n))) (Memᴰ.map instead i)))) o.works;
        }
          where
            taken : d ∈ map instead o.more
            taken =
                let w = any-sound (eqb r) o.more (passes e) in
                Memᴰ.cast (ap (λ b. cond b d w.0) (sym (eq-eqb w.0 r (sym (eqb→eq r w.0 w.2))))) (Memᴰ.map instead w.1)

    -- A row that may be used is dropped where another, used or allowed, dominates it.
    pub drop-dominated : used d ⊎ may d → CanBy s q rows used may b ↔ CanBy s q rows used may' b
    drop-dominated has = (λ o. ⊎_elim (λ h. beside-used h o) (λ h. beside-may h o) has, can-more s q rows (λ u h i. i) less (omega arith))

  -- Of two used rows the one that the other dominates is dropped.
  pub drop-used : {used used' may : ℕ → Type 0} {b : ℕ} → used' d → ((u : ℕ) → u < length rows → used' u → used u) → ((u : ℕ) → u < length rows → (u ≡ r → ⊥) → used u → used' u)
      → CanBy s q rows used may b ↔ CanBy s q rows used' may b
  drop-used has less rest = (
    λ o. record { more = o.more; among = o.among; few = o.few; works = works-without (inl has) (λ u h n. ⊎_elim (λ i. inl (rest u h n i)) inr) o.works },
    can-more s q rows less (λ u h i. i) (omega arith),
  )
