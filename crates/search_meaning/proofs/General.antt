-- The places that a task asks for on codes are those of the mappings over terms.
use mathlib.Core.Path.{◌≡◌, sym, ap, ◌∙◌}
use mathlib.Core.Logic.{◌↔◌}
use mathlib.Core.List.{List, map}
use Prim.Native.Nat.{ℕ, ◌<◌}
use native.Mathlib.Omega.{arith}
use native.Mathlib.Decide.{dec_lt}
use lib.ListN.{length, get_or, length-map}
use lib.Seq.{ext_get_or}
use Rattle.spec.specs.Words.{◌∈◌, Subgoal, each}
use Rattle.spec.proofs.Lists.At.{map_get, get_or-place, get_or-in}
use Rattle.task.specs.Task.{Task, value_of, Agrees, source_term, target_term, width_of}
use Rattle.task.specs.Mapped.{use_of, Lands, Mapped}
use Rattle.task.proofs.Slots.{value-slot, value-code}
use Rattle.search_meaning.specs.Coded.{Naming, Coding, Bound, task, Ready, Valued}
use Rattle.search_meaning.proofs.AtCodes.{nothing, relation-at, term-at, width-at}
use Rattle.search_meaning.proofs.AtPlaces.{Indexed, places-indexed, indexed-places}

-- values that agree on the slots give a source code the same
value_same : (v w : ℕ → ℕ) (x : ℕ) → (x < 64 → v x ≡ w x) → value_of v x ≡ value_of w x
value_same v w x same = elim (dec_lt x 64) [
  | yes h ↦ value-slot v x h ∙ same h ∙ sym (value-slot w x h)
  | no h ↦ value-code v x (omega arith) ∙ sym (value-code w x (omega arith))
]

module _ {S D : Type 0} (n : Naming S) (c : Coding D) (src : List (Subgoal S)) (lasts : List ℕ) (tgt : List (Subgoal D)) (own b : List ℕ) (ready : Ready n c src lasts tgt own b) where
  abbrev p : Task
  p = task n c src lasts tgt own

  -- the i-th source subgoal, the k-th target, their terms
  abbrev s : ℕ → Subgoal S
  s i = get_or src i nothing

  abbrev t : ℕ → Subgoal D
  t k = get_or tgt k nothing

  abbrev s_term : ℕ → ℕ → S
  s_term i a = get_or (s i).terms a (n.name 0 0)

  abbrev t_term : ℕ → ℕ → D
  t_term k a = get_or (t k).terms a (c.read 0)

  module _ (i k : ℕ) (hi : i < length src) (hk : k < length tgt) where
    s-in : s i ∈ src
    s-in = get_or-in nothing src i hi

    t-in : t k ∈ tgt
    t-in = get_or-in nothing tgt k hk

    term_in : (a : ℕ) → a < length (s i).terms → s_term i a ∈ (s i).terms
    term_in a h = get_or-in (n.name 0 0) (s i).terms a h

    source-code : (a : ℕ) → a < length (s i).terms → source_term p i a ≡ n.code (s_term i a)
    source-code a h = term-at n.code src i a (n.name 0 0) hi (omega (arith, ready.room (s i) s-in)) h

    target_code : (a : ℕ) → a < length (s i).terms → a < length (t k).terms → target_term p k a ≡ c.code (t_term k a)
    target_code a h m = term-at c.code tgt k a (c.read 0) hk (omega (arith, ready.room (s i) s-in)) m

    -- Where the values are what the codes become, codes that agree make the subgoal the target.
    agrees-each : (value : S → D) (v : ℕ → ℕ) → ((x : S) → x ∈ (s i).terms → value x ≡ c.read (value_of v (n.code x))) → Agrees p v i k → each value (s i) ≡ t k
    agrees-each value v said g = λ j. record { relation = same j; terms = ext_get_or (c.read 0) (map value (s i).terms) (t k).terms (length-map (s i).terms value ∙ long) one j }
      where
        same : (s i).relation ≡ (t k).relation
        same = sym (relation-at n.code src i hi) ∙ sym g.relation ∙ relation-at c.code tgt k hk

        long : length (s i).terms ≡ length (t k).terms
        long = ready.alike (s i) (t k) s-in t-in same

        one : (a : ℕ) → a < length (map value (s i).terms) → get_or (map value (s i).terms) a (c.read 0) ≡ t_term k a
        one a h =
            let o : a < length (s i).terms = omega (arith, length-map (s i).terms value) in
            let m : a < length (t k).terms = omega (arith, long) in
            let code : value_of v (n.code (s_term i a)) ≡ c.code (t_term k a) = ap (value_of v) (sym (source-code a o)) ∙ g.terms a (omega (arith, width-at src i)) ∙ target_code a o m in
            map_get value (s i).terms a (n.name 0 0) (c.read 0) o ∙ said (s_term i a) (term_in a o) ∙ ap c.read code ∙ ready.known (t_term k a) (t k, t-in, get_or-in (c.read 0) (t k).terms a m)

    -- Where the codes become the values' codes, a subgoal that becomes the target has codes that agree.
    each-agrees : (value : S → D) (v : ℕ → ℕ) → ((x : S) → x ∈ (s i).terms → value_of v (n.code x) ≡ c.code (value x)) → each value (s i) ≡ t k → Agrees p v i k
    each-agrees value v said e = record {
      relation = relation-at c.code tgt k hk ∙ ap (λ (g : Subgoal D). g.relation) (sym e) ∙ sym (relation-at n.code src i hi);
      terms = one;
    }
      where
        long : length (s i).terms ≡ length (t k).terms
        long = sym (length-map (s i).terms value) ∙ ap (λ (g : Subgoal D). length g.terms) e

        one : (a : ℕ) → a < width_of p i → value_of v (source_term p i a) ≡ target_term p k a
        one a h =
            let o : a < length (s i).terms = omega (arith, width-at src i) in
            ap (value_of v) (source-code a o) ∙ said (s_term i a) (term_in a o) ∙ ap c.code (sym (map_get value (s i).terms a (n.name 0 0) (c.read 0) o) ∙ ap (λ (g : Subgoal D). get_or g.terms a (c.read 0)) e) ∙ sym (target_code a o (omega (arith, long)))

  goals-are : length p.widths ≡ length src
  goals-are = length-map src (λ g. length g.terms)

  -- a term of the i-th source subgoal, where one value a use is said of it
  module _ {A : Type 0} (val : ℕ → ℕ → A) (shared : (u w x : ℕ) → x < 32 → val u x ≡ val w x) where
    at_home : (i : ℕ) → i < length src → (x : S) → x ∈ (s i).terms → n.code x < 64 → val (n.home x) (n.code x) ≡ val (use_of p i) (n.code x)
    at_home i h x m o = elim (dec_lt (n.code x) 32) [
      | yes l ↦ shared (n.home x) (use_of p i) (n.code x) l
      | no l ↦ ap (λ u. val u (n.code x)) (ready.apart i (s i) (get_or-place nothing src i h) x m (omega arith) o)
    ]

  mapped-valued : (l : List ℕ) → Mapped p b l → Valued n c src tgt b l
  mapped-valued l m = record {
    value = value;
    sends = indexed-places nothing tgt l (map (each value) src) record { long = m.long ∙ goals-are ∙ sym (length-map src (each value)); within = within; stands = stands };
    keeps = λ x i h. ap c.read (value-code (m.val (n.home x)) (n.code x) h);
    extends = extends;
  }
    where
      value : S → D
      value x = c.read (value_of (m.val (n.home x)) (n.code x))

      within : (i : ℕ) → i < length (map (each value) src) → get_or l i 0 < length tgt
      within i h = omega (arith, (m.lands i (omega (arith, goals-are, length-map src (each value)))).within, ready.rows)

      stands : (i : ℕ) → i < length (map (each value) src) → t (get_or l i 0) ≡ get_or (map (each value) src) i nothing
      stands i h =
          let o : i < length src = omega (arith, length-map src (each value)) in
          sym (map_get (each value) src i nothing nothing o ∙ agrees-each i (get_or l i 0) o (within i h) value (m.val (use_of p i))
          (λ x j. ap c.read (value_same (m.val (n.home x)) (m.val (use_of p i)) (n.code x) (at_home m.val m.shared i o x j)))
          (m.lands i (omega (arith, goals-are))).agrees)

      extends : (x : ℕ) → Bound b x → value (n.name 0 x) ≡ c.read (get_or b x 0)
      extends x o =
          let low = ready.low x o in
          ap c.read (ap (value_of (m.val (n.home (n.name 0 x)))) (ready.slot x o) ∙ value-slot _ x (omega arith) ∙ m.shared (n.home (n.name 0 x)) 0 x low ∙ m.given x o)

  valued-mapped : (l : List ℕ) → Valued n c src tgt b l → Mapped p b l
  valued-mapped l m = record {
    val = val;
    shared = λ u w x h. ap (λ y. c.code (m.value y)) (ready.shared u w x h);
    given = λ x o. ap c.code (m.extends x o) ∙ ready.given x o;
    long = w.long ∙ length-map src (each m.value) ∙ sym goals-are;
    lands = lands;
  }
    where
      val : ℕ → ℕ → ℕ
      val u x = c.code (m.value (n.name u x))

      w : Indexed nothing tgt l (map (each m.value) src)
      w = places-indexed nothing tgt l (map (each m.value) src) m.sends

      lands : (i : ℕ) → i < length p.widths → Lands p val i (get_or l i 0)
      lands i h = record { within = omega (arith, in-tgt, ready.rows); agrees = each-agrees i (get_or l i 0) o in-tgt m.value (val (use_of p i)) says (sym (map_get (each m.value) src i nothing nothing o) ∙ sym (w.stands i o')) }
        where
          o : i < length src
          o = omega (arith, goals-are)

          o' : i < length (map (each m.value) src)
          o' = omega (arith, o, length-map src (each m.value))

          in-tgt : get_or l i 0 < length tgt
          in-tgt = w.within i o'

          says : (x : S) → x ∈ (s i).terms → value_of (val (use_of p i)) (n.code x) ≡ c.code (m.value x)
          says x j = elim (dec_lt (n.code x) 64) [
            | yes a ↦ value-slot (val (use_of p i)) (n.code x) a ∙ ap (λ y. c.code (m.value y)) (sym (at_home n.name ready.shared i o x j a) ∙ ready.named x (s i, get_or-in nothing src i o, j) a)
            | no a ↦ value-code (val (use_of p i)) (n.code x) (omega arith) ∙ sym (ready.kept x (s i, get_or-in nothing src i o, j) (omega arith)) ∙ ap c.code (sym (m.keeps x (s i, get_or-in nothing src i o, j) (omega arith)))
          ]

  -- The law.
  pub mapped-is : (l : List ℕ) → Mapped p b l ↔ Valued n c src tgt b l
  mapped-is l = (mapped-valued l, valued-mapped l)
