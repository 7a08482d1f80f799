-- What is given fits the rooms: 534 bytes for the answer, 120 for the witness.
use mathlib.Core.Path.{◌≡◌, refl, sym, ap, ◌∙◌, subst}
use mathlib.Core.Option.{some}
use mathlib.Core.List.Memᴰ
use mathlib.Core.List.{List, [], ◌∷◌}
use Prim.Native.Nat.{ℕ, suc, ◌*◌, ◌≤◌}
use native.Mathlib.Omega.{arith}
use lib.ListN.{length, length-map, length-append}
use Rattle.spec.specs.Words.{◌∈◌, Term, con, Subgoal, Rule, becomes, each}
use Rattle.spec.specs.Summaries.{Summaries, summary, or_empty, definition, in_use, in_place, uses, joined, expansion, rewriting}
use Rattle.spec.specs.Answer.{AtPlaces, AtPairs, There, Back}
use Rattle.spec.specs.Book.{admitted_of}
use Rattle.spec.specs.Table.{answer_room, witness_room}
use Rattle.spec.specs.Given.{Given, answer_bytes, witness_bytes}
use Rattle.spec.proofs.Bytes.Sizes.{rule-most}
use Rattle.containment.proofs.Sound.{admitted-from}
use Rattle.outcomes.proofs.Demand.{given-few}

-- the two parts are as long as what they place
pairs-long : {A : Type 0} (ls : List (List A)) (bytes : List ℕ) (ts : List A) → AtPairs ls bytes ts → length bytes ≡ 2 * length ts
pairs-long ls [] [] h = refl
pairs-long ls [] (t ∷ ts) h = absurd h
pairs-long ls (n ∷ []) ts h = absurd h
pairs-long ls (n ∷ m ∷ bytes) [] h = absurd h
pairs-long ls (n ∷ m ∷ bytes) (t ∷ ts) h = omega (arith, pairs-long ls bytes ts h.1)

places-long : {A : Type 0} (l : List A) (bytes : List ℕ) (ts : List A) → AtPlaces l bytes ts → length bytes ≡ length ts
places-long l [] [] h = refl
places-long l [] (t ∷ ts) h = absurd h
places-long l (n ∷ bytes) [] h = absurd h
places-long l (n ∷ bytes) (t ∷ ts) h = ap suc (places-long l bytes ts h.1)

pub there-long : (s : Summaries) (q r : Rule ℕ) (bytes : List ℕ) → There s q r bytes → length bytes ≡ 2 * length q.body
there-long s q r bytes t =
    let e : length q.body ≡ length t.targets = sym (length-map q.body (each (becomes con t.mapping.value))) ∙ ap length t.mapping.sends in
    omega (arith, pairs-long (uses s 0 r.body) bytes t.targets t.named)

pub back_long : (s : Summaries) (q r : Rule ℕ) (bytes : List ℕ) → Back s q r bytes → length bytes ≡ length (expansion s r).body
back_long s q r bytes b =
    places-long q.body bytes b.targets b.named ∙ sym (ap length b.mapping.sends) ∙ length-map (expansion s r).body (each (becomes con b.mapping.value))

-- each use has at most eight subgoals, where each admitted definition has
uses-few : {X : Type 0} (s : Summaries) (u : ℕ) (l : List (Subgoal (Term X))) → ((g : Subgoal (Term X)) → g ∈ l → length (definition s g.relation).body ≤ 8) → length (joined (uses s u l)) ≤ 8 * length l
uses-few s u [] h = omega arith
uses-few s u (g ∷ l) h =
    let here = h g (Memᴰ.head refl) in
    let rest = uses-few s (suc u) l (λ k m. h k (Memᴰ.tail m)) in
    omega (arith, length-append (in_place s u g) (joined (uses s (suc u) l)), length-map (definition s g.relation).body (each (becomes con (in_use s u g))))

module _ {book : List ℕ} {answer witness : ℕ} (g : Given book answer witness) where
  abbrev rows : List (Subgoal (Term ℕ))
  rows = g.result.rows

  -- an admitted rule has a head of at most eight terms and at most eight subgoals
  admitted-small : (n : ℕ) (r : Rule ℕ) → summary (admitted_of g.value) n ≡ some r → (length r.head ≤ 8) × (length r.body ≤ 8)
  admitted-small n r e =
      let w = admitted-from g.value n r e in
      let v = (g.sound.value.summaries w.0 w.1).within in
      subst (λ x. (length x.head ≤ 8) × (length x.body ≤ 8)) w.2 (v.short, v.few)

  row_small : (k : Subgoal (Term ℕ)) → k ∈ rows → length k.terms ≤ 8
  row_small k m =
      let y = g.right.answers.holds.rows k m in
      let long : length k.terms ≡ length y.rule.head = ap length (sym y.yields.gives) ∙ length-map y.rule.head (becomes con y.yields.value) in
      omega (arith, (admitted-small k.relation y.rule y.admitted).0)

  body-small : (k : Subgoal (Term ℕ)) → k ∈ rows → length (definition (admitted_of g.value) k.relation).body ≤ 8
  body-small k m =
      let y = g.right.answers.holds.rows k m in
      subst (λ o. length (or_empty o).body ≤ 8) (sym y.admitted) (admitted-small k.relation y.rule y.admitted).1

  few-rows : length rows ≤ 12
  few-rows = omega (arith, given-few g, g.sound.value.question.within.few)

  pub answer-fits : length (answer_bytes g.value.question g.result) ≤ answer_room
  answer-fits = rule-most (rewriting g.value.question rows) 12 g.sound.value.question.within.short few-rows row_small

  pub witness-fits : length (witness_bytes g.result) ≤ witness_room
  witness-fits =
      let s = admitted_of g.value in
      let q = g.value.question in
      let t = there-long s q (rewriting q rows) g.result.there g.right.goes.holds in
      let b = back_long s q (rewriting q rows) g.result.back g.right.returns.holds in
      omega (arith, length-append g.result.there g.result.back, uses-few s 0 rows body-small, few-rows, g.sound.value.question.within.few)
