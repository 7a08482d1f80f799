-- The slots of a summary's head, one by one.
use mathlib.Core.Path.{◌≡◌, refl, sym, ap, ap₂, ◌∙◌}
use mathlib.Core.Option.{some}
use mathlib.Core.List.Memᴰ
use mathlib.Core.List.{List, [], ◌∷◌, map}
use Prim.Native.Nat.{ℕ, suc, ◌+◌, ◌*◌, ◌<◌, ◌≤◌}
use native.Mathlib.Omega.{arith}
use lib.ListN.{length, get_or, take, set, replicate, length-map}
use lib.Seq.{sets}
use Rattle.spec.specs.Words.{◌∈◌, Term, var, con, Rule, DistinctVariables}
use Rattle.spec.specs.Summaries.{place}
use Rattle.spec.specs.Numbers.{number_at}
use Rattle.spec.specs.Given.{at_front}
use Rattle.spec.proofs.Bytes.Standing.{number_of, TermAt}
use Rattle.spec.proofs.Lists.Places.{place-some}
use Rattle.spec.proofs.Bytes.RulePlaces.{head-terms}
use Rattle.spec.proofs.Lists.At.{mapped}
use Rattle.spec.proofs.Lists.Counted.{place_in}
use Rattle.codes.specs.Code.{slot_code}
use Rattle.rule_codes.specs.Promises.{HeadCount}
use Rattle.rule_codes.proofs.Stores.{stores-more, stores-end, front-more}
use Rattle.row_list.specs.Tasks.{SummaryIs, SomeSummary, HeadSlots}

-- a variable's slot is its number
plain-slot : (ts : List (Term ℕ)) → DistinctVariables ts → (t : Term ℕ) → t ∈ ts → number_of t ≡ slot_code t
plain-slot (var x ∷ ts) d t (Memᴰ.head e) = rw e refl
plain-slot (var x ∷ ts) d t (Memᴰ.tail i) = plain-slot ts d.1 t i
plain-slot (con c ∷ ts) d t i = absurd d
plain-slot [] d t i = elim i [ ]

-- The slots after i of the head's terms.
pub record SlotsSoFar (bytes : List ℕ) (i : ℕ) (slots : List ℕ) : Type 0 where
  pub is : (relations : List ℕ) (v : Rule ℕ) → SummaryIs relations bytes v → slots ≡ sets (replicate 8 0) 0 (take i (map slot_code v.head))

pub slots-start : (bytes : List ℕ) → SlotsSoFar bytes 0 (replicate 8 0)
slots-start bytes = record { is = λ a v s. refl }

module _ {bytes : List ℕ} {n : ℕ} (count : HeadCount bytes n) where
  pub heads-few : {relations : List ℕ} → SomeSummary relations bytes → n ≤ 8
  heads-few {relations} w = let same = count.is relations 8 w.rule w.is.layout in let few = w.is.layout.within.short in omega arith

  module _ {i : ℕ} (turn : i < n) where
    -- the head's next term
    record NextSlot (v : Rule ℕ) : Type 0 where
      term : Term ℕ
      stands : place v.head (suc i) ≡ some term
      here : TermAt bytes (2 + 5 * i) term

    next : {relations : List ℕ} (v : Rule ℕ) → SummaryIs relations bytes v → NextSlot v
    next {relations} v s =
        let t = place-some v.head i (let same = count.is relations 8 v s.layout in omega arith) in
        record { term = t.0; stands = t.1; here = (head-terms s.layout).term i t.0 t.1 }

    pub slot-room : {relations : List ℕ} → SomeSummary relations bytes → 3 + 5 * i + 4 ≤ length bytes
    slot-room w = let t = (next w.rule w.is).here.room in omega arith

    pub slots-go : {slots : List ℕ} {w : ℕ} → SlotsSoFar bytes i slots → w ≡ number_at 4 bytes (3 + 5 * i) → SlotsSoFar bytes (i + 1) (set slots i w)
    slots-go {slots} {w} so e = record { is = is }
      where
        is : (relations : List ℕ) (v : Rule ℕ) → SummaryIs relations bytes v → set slots i w ≡ sets (replicate 8 0) 0 (take (i + 1) (map slot_code v.head))
        is relations v s =
            let t = next v s in
            let at : 3 + 5 * i ≡ 2 + 5 * i + 1 = omega arith in
            let one : i + 1 ≡ suc i = omega arith in
            let none : 0 + i ≡ i = omega arith in
            let slot : w ≡ get_or (map slot_code v.head) i 0 = e ∙ ap (number_at 4 bytes) at ∙ t.here.number ∙ plain-slot v.head s.plain t.term (place_in v.head (suc i) t.stands) ∙ sym (mapped slot_code v.head i 0 t.term t.stands) in
            let inside : i < length (map slot_code v.head) = (let same = count.is relations 8 v s.layout in omega (arith, length-map v.head slot_code)) in
            ap₂ (λ l k. set l k w) (so.is relations v s) (sym none) ∙ stores-more (replicate 8 0) 0 (map slot_code v.head) i w inside slot ∙ ap (λ k. sets (replicate 8 0) 0 (take k (map slot_code v.head))) (sym one)

  pub slots_end : {i : ℕ} {slots : List ℕ} → n ≤ i → SlotsSoFar bytes i slots → HeadSlots bytes slots
  slots_end {i} {slots} h so = record { is = is }
    where
      is : (relations : List ℕ) (v : Rule ℕ) → SummaryIs relations bytes v → slots ≡ at_front (map slot_code v.head) (replicate 8 0)
      is relations v s =
          let same = count.is relations 8 v s.layout in
          let few = s.layout.within.short in
          let long = length-map v.head slot_code in
          so.is relations v s ∙ stores-end (replicate 8 0) 0 (map slot_code v.head) i (omega arith) ∙ front-more [] (map slot_code v.head) (replicate 8 0) (omega arith)
