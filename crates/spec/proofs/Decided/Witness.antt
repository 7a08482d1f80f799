-- The two parts of the witness computed: all that give a containment mapping, in the order of their bytes; the first of each.
use mathlib.Core.Path.{◌≡◌, refl, sym, ap, ◌∙◌, subst}
use mathlib.Core.Logic.{inl, inr, ◌↔◌}
use mathlib.Core.Option.{Option, some, none}
use mathlib.Core.List.Memᴰ
use mathlib.Core.List.{List, [], ◌∷◌, ◌++◌, map}
use Prim.Native.Nat.{ℕ, ◌<◌}
use native.Mathlib.Omega.{arith}
use lib.ListN.{length}
use Rattle.spec.specs.Words.{◌∈◌, Term, con, Subgoal, Rule}
use Rattle.spec.specs.Summaries.{Summaries, uses, expansion}
use Rattle.spec.specs.Order.{ListBefore}
use Rattle.spec.specs.Answer.{Sends, AtPlaces, AtPairs, There, Back, FirstThere, FirstBack}
use Rattle.spec.proofs.Decided.Equal.{Eq, eq_number, eq_term, eq_own}
use Rattle.spec.proofs.Lists.Gathered.{gather, from, from_out, first}
use Rattle.spec.proofs.Lists.Strict.{first-unique}
use Rattle.spec.proofs.Decided.Orders.{bytes_order}
use Rattle.spec.proofs.Lists.Rising.{Rising, rising-gather, rising-map}
use Rattle.spec.proofs.Lists.Enumerate.{Enumerates, enumerates-first, enumerates-none}
use Rattle.spec.proofs.Decided.Bindings.{Bindings, unbound}
use Rattle.spec.proofs.Decided.Meet.{meet_all, meet_fact}
use Rattle.spec.proofs.Decided.Placings.{Target, Placing, placed, placings}
use Rattle.spec.proofs.Decided.Ways.{fact_of, ways, ways-sound, ways-complete}
use Rattle.spec.proofs.Decided.Named.{written, BytesBefore, Names, places, places-names, pairs, pairs-names}

-- the same bytes before both change nothing; bytes before others, as many, stay so whatever follows
pub same-front : (l x y : List ℕ) → ListBefore ◌<◌ x y → ListBefore ◌<◌ (l ++ x) (l ++ y)
same-front [] x y h = h
same-front (n ∷ l) x y h = inr (refl, same-front l x y h)

pub before-front : (l m x y : List ℕ) → length l ≡ length m → ListBefore ◌<◌ l m → ListBefore ◌<◌ (l ++ x) (m ++ y)
before-front [] [] x y e h = absurd h
before-front [] (n ∷ m) x y e h = let z : ⊥ = omega arith in absurd z
before-front (n ∷ l) [] x y e h = absurd h
before-front (n ∷ l) (k ∷ m) x y e (inl h) = inl h
before-front (n ∷ l) (k ∷ m) x y e (inr h) = inr (h.0, before-front l m x y (omega arith) h.1)

-- what the witness writes of a placing
abbrev ends : {X A : Type 0} → Placing X A → List ℕ
ends p = written p.targets

abbrev EndsBefore : {X A : Type 0} → Placing X A → Placing X A → Type 0
EndsBefore p r = ListBefore ◌<◌ (ends p) (ends r)

module _ {X A : Type 0} (e_x : Eq X) (e_a : Eq A) (k : ℕ → A) (ts : List (Target A)) where
  -- placings come in the order of their bytes
  placings-rising : (wide : ℕ) → ((t : Target A) → t ∈ ts → length t.bytes ≡ wide) → Rising BytesBefore ts → (gs : List (Subgoal (Term X))) (b : Bindings X A) → Rising EndsBefore (placings e_x e_a k ts gs b)
  placings-rising wide even r [] b = (λ p m. absurd (Memᴰ.not-nil m), tt)
  placings-rising wide even r (g ∷ gs) b = go (placings-rising wide even r gs)
    where
      part : Target A → Bindings X A → List (Placing X A)
      part t c = map (placed t) (placings e_x e_a k ts gs c)

      go : ((c : Bindings X A) → Rising EndsBefore (placings e_x e_a k ts gs c)) → Rising EndsBefore (gather (λ t. from (part t) (meet_fact e_x e_a k g t.fact b)) ts)
      go rest = rising-gather BytesBefore EndsBefore (λ t. from (part t) (meet_fact e_x e_a k g t.fact b)) ts r (λ t i. inner t (meet_fact e_x e_a k g t.fact b)) across
        where
          inner : (t : Target A) (o : Option (Bindings X A)) → Rising EndsBefore (from (part t) o)
          inner t none = tt
          inner t (some c) = rising-map EndsBefore EndsBefore (placed t) (placings e_x e_a k ts gs c) (rest c) (λ p q i j h. same-front t.bytes (ends p) (ends q) h)

          across : (t u : Target A) → t ∈ ts → u ∈ ts → BytesBefore t u → (x y : Placing X A) → x ∈ from (part t) (meet_fact e_x e_a k g t.fact b) → y ∈ from (part u) (meet_fact e_x e_a k g u.fact b) → EndsBefore x y
          across t u i j h x y m n =
              let v = from_out (part t) (meet_fact e_x e_a k g t.fact b) m in
              let w = from_out (part u) (meet_fact e_x e_a k g u.fact b) n in
              let p = Memᴰ.of_map (placed t) (placings e_x e_a k ts gs v.0) v.2 in
              let q = Memᴰ.of_map (placed u) (placings e_x e_a k ts gs w.0) w.2 in
              rw (← p.2, ← q.2) (before-front t.bytes u.bytes (ends p.0) (ends q.0) (even t i ∙ sym (even u j)) h)

-- Where the bytes name the targets: all bytes that give a containment mapping.
module _ {X Y : Type 0} (e_x : Eq X) (e_y : Eq Y) (q : Rule X) (head : List (Term Y)) (ts : List (Target (Term Y))) where
  abbrev pub witnesses : List (List ℕ)
  witnesses = map ends (ways e_x (eq_term e_y) con q ts head)

  abbrev Gives : (List ℕ → List (Subgoal (Term Y)) → Type 0) → List ℕ → Type 0
  Gives Named bytes = (targets : List (Subgoal (Term Y))) × Named bytes targets × Sends q head targets

  pub witnesses-enumerate : (Named : List ℕ → List (Subgoal (Term Y)) → Type 0) (wide : ℕ) → Names Named wide ts → Enumerates (Gives Named) (ListBefore ◌<◌) witnesses
  witnesses-enumerate Named wide names = record { sound = sound; complete = complete; rising = rising }
    where
      sound : (bytes : List ℕ) → bytes ∈ witnesses → Gives Named bytes
      sound bytes m =
          let p = Memᴰ.of_map ends (ways e_x (eq_term e_y) con q ts head) m in
          let w = ways-sound e_x (eq_term e_y) con q ts head p.0 p.1 in
          subst (Gives Named) p.2 (map fact_of p.0.targets, names.sound p.0.targets w.inside, record { value = w.value; gives = w.gives; sends = w.sends })

      complete : (bytes : List ℕ) → Gives Named bytes → bytes ∈ witnesses
      complete bytes g =
          let u = names.complete bytes g.0 g.1 in
          let p = ways-complete e_x (eq_term e_y) con q ts head u.0 record { value = g.2.value; gives = g.2.gives; sends = g.2.sends ∙ sym u.3; inside = u.1 } in
          Memᴰ.cast (sym u.2 ∙ ap written (sym p.2)) (Memᴰ.map ends p.1)

      all : (o : Option (Bindings X (Term Y))) → Rising EndsBefore (from (placings e_x (eq_term e_y) con ts q.body) o)
      all none = tt
      all (some b) = placings-rising e_x (eq_term e_y) con ts wide names.even names.rising q.body b

      rising : Rising (ListBefore ◌<◌) witnesses
      rising = rising-map EndsBefore (ListBefore ◌<◌) ends (ways e_x (eq_term e_y) con q ts head) (all (meet_all e_x (eq_term e_y) con q.head head unbound)) (λ p r i j h. h)

module _ (s : Summaries) (q r : Rule ℕ) where
  abbrev pub theres : List (List ℕ)
  theres = witnesses eq_number (eq_own eq_number) q (expansion s r).head (pairs (uses s 0 r.body))

  abbrev pub backs : List (List ℕ)
  backs = witnesses (eq_own eq_number) eq_number (expansion s r) q.head (places q.body)

  abbrev pub there : Option (List ℕ)
  there = first theres

  abbrev pub back : Option (List ℕ)
  back = first backs

  pub theres-enumerate : Enumerates (There s q r) (ListBefore ◌<◌) theres
  theres-enumerate =
      let e = witnesses-enumerate eq_number (eq_own eq_number) q (expansion s r).head (pairs (uses s 0 r.body)) (AtPairs (uses s 0 r.body)) 2 (pairs-names (uses s 0 r.body)) in
      record {
        sound = λ bytes m. let g = e.sound bytes m in record { targets = g.0; named = g.1; mapping = g.2 };
        complete = λ bytes t. e.complete bytes (t.targets, t.named, t.mapping);
        rising = e.rising;
      }

  pub backs-enumerate : Enumerates (Back s q r) (ListBefore ◌<◌) backs
  backs-enumerate =
      let e = witnesses-enumerate (eq_own eq_number) eq_number (expansion s r) q.head (places q.body) (AtPlaces q.body) 1 (places-names q.body) in
      record {
        sound = λ bytes m. let g = e.sound bytes m in record { targets = g.0; named = g.1; mapping = g.2 };
        complete = λ bytes t. e.complete bytes (t.targets, t.named, t.mapping);
        rising = e.rising;
      }

  pub there-is : (bytes : List ℕ) → (there ≡ some bytes) ↔ FirstThere s q r bytes
  there-is = enumerates-first bytes_order theres theres-enumerate

  pub there-none : (there ≡ none) ↔ ((bytes : List ℕ) → There s q r bytes → ⊥)
  there-none = enumerates-none theres theres-enumerate

  pub there-unique : (b c : List ℕ) → FirstThere s q r b → FirstThere s q r c → b ≡ c
  there-unique b c = first-unique bytes_order b c

  pub back_is : (bytes : List ℕ) → (back ≡ some bytes) ↔ FirstBack s q r bytes
  back_is = enumerates-first bytes_order backs backs-enumerate

  pub back_none : (back ≡ none) ↔ ((bytes : List ℕ) → Back s q r bytes → ⊥)
  back_none = enumerates-none backs backs-enumerate

  pub back-unique : (b c : List ℕ) → FirstBack s q r b → FirstBack s q r c → b ≡ c
  back-unique b c = first-unique bytes_order b c
