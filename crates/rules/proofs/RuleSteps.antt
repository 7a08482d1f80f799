-- What reading a whole rule answers, one law for each return of the code.
use mathlib.Core.Path.{◌≡◌, refl, sym, ap, ap₂, ◌∙◌}
use mathlib.Core.Logic.{◌⊎◌, inl, inr}
use mathlib.Core.List.{List, [], ◌∷◌}
use Prim.Native.Nat.{ℕ, ◌<◌, ◌≤◌}
use native.Mathlib.Omega.{arith}
use lib.ListN.{length, get_or, drop, length-drop}
use borrow.Author.Tests.{lt-ltb, le-ltb, le-leb, lt-leb}
use Rattle.std.specs.Prelude.{Result, Ok, Err}
use Rattle.spec.specs.Words.{Term, Subgoal, Rule}
use Rattle.spec.proofs.Bytes.RuleReading.{Read, got, bad, bad_count, over, and_then, read_term, read_many, read_subgoal, as_rule, read_body, read_head, read_rule}
use Rattle.spec.proofs.Bytes.Tails.{end-place, tails-many, tails-term, tails-subgoal}
use Rattle.rules.specs.declared.subgoals.Fault.{Fault}
use Rattle.rules.specs.declared.subgoals.Fault.TheVariants.{Count, Early, Over}
use Rattle.rules.specs.declared.subgoals.Front.{Front}
use Rattle.rules.specs.declared.Notes.{Notes}
use Rattle.rules.specs.Marked.{fresh, none, marks, goal_marks, stepped}
use Rattle.rules.specs.Wholes.{whole_of}
use Rattle.rules.proofs.Runs.{Went, went, stopped}
use Rattle.spec.proofs.Lists.Parts.{two_bytes}

-- the two counts in front, of which the first is within its bound
pub record Counts (s : List ℕ) (a c : ℕ) : Type 0 where
  pub heads : a ≡ get_or s 0 0
  pub goals : c ≡ get_or s 1 0
  pub both : 2 ≤ length s
  pub few : a ≤ 8

module _ (arities : List ℕ) (most : ℕ) where
  abbrev answer : List ℕ → Result Notes Fault
  answer s = whole_of (read_rule arities most s)

  pub no_bytes : (s : List ℕ) → length s < 1 → Err Early ≡ answer s
  unfolding whole_of
  no_bytes [] h = refl
  no_bytes (a ∷ s) h = absurd (omega arith)

  pub bad-heads : (s : List ℕ) (a : ℕ) → a ≡ get_or s 0 0 → 1 ≤ length s → 8 < a → Err Count ≡ answer s
  unfolding whole_of
  bad-heads [] a e h l = absurd (omega arith)
  bad-heads (b ∷ s) a e h l = rw (lt-leb b 8 (omega arith))

  pub one_byte : (s : List ℕ) (a : ℕ) → a ≡ get_or s 0 0 → 1 ≤ length s → a ≤ 8 → length s < 2 → Err Early ≡ answer s
  unfolding whole_of
  one_byte [] a e h l k = absurd (omega arith)
  one_byte (b ∷ []) a e h l k = rw (le-leb b 8 (omega arith))
  one_byte (b ∷ c ∷ s) a e h l k = absurd (omega arith)

  module _ (s : List ℕ) (a c : ℕ) (front : Counts s a c) where
    split : s ≡ a ∷ c ∷ drop 2 s
    split = two_bytes s front.both ∙ ap₂ (λ x y. x ∷ y ∷ drop 2 s) (sym front.heads) (sym front.goals)

    from : (z : Read (Rule ℕ)) → read_rule arities most (a ∷ c ∷ drop 2 s) ≡ z → whole_of z ≡ answer s
    from z q = ap whole_of (sym q ∙ ap (read_rule arities most) (sym split))

    pub bad-goals : (c < 1) ⊎ ((1 ≤ c) × (most < c)) → Err Count ≡ answer s
    unfolding whole_of
    bad-goals (inl l) = from (bad bad_count) (rw (le-leb a 8 front.few, le-ltb 0 c (omega arith)))
    bad-goals (inr m) = from (bad bad_count) (rw (le-leb a 8 front.few, lt-ltb 0 c (omega arith), lt-leb c most m.1))

    module _ (some : 1 ≤ c) (fit : c ≤ most) where
      counted : read_rule arities most (a ∷ c ∷ drop 2 s) ≡ read_head arities a c (drop 2 s)
      counted = rw (le-leb a 8 front.few, lt-ltb 0 c (omega arith), le-leb c most fit)

      abbrev head_step : Front → Result Front Fault
      head_step start = stepped (marks start.notes) (length s) (read_many read_term a (drop start.at s))

      pub head-stops : (start : Front) (r : Result Front Fault) (g : Fault) → start ≡ fresh 2 → r ≡ head_step start → r ≡ Err g → Err g ≡ answer s
      unfolding whole_of
      head-stops start r g n q b =
          let w = stopped (marks none) (length s) (read_many read_term a (drop 2 s)) g (sym b ∙ q ∙ ap head_step n) in
          ap Err w.2 ∙ from (bad w.0) (counted ∙ ap (λ z. and_then z (read_body arities c)) w.1)

      module _ (start : Front) (r : Result Front Fault) (head : Front) (n : start ≡ fresh 2) (q : r ≡ head_step start) (b : r ≡ Ok head) where
        w : Went (marks none) (length s) (read_many read_term a (drop 2 s)) head
        w = went (marks none) (length s) (read_many read_term a (drop 2 s)) head (sym b ∙ q ∙ ap head_step n)

        head-within : head.at ≤ length s
        head-within = let p = w.place in omega arith

        pub head-place : (next : Front) → next ≡ fresh head.at → next.at ≤ length s
        head-place next e = let p = ap (λ f. f.at) e in let h = head-within in omega arith

        rest-is : w.rest ≡ drop head.at s
        rest-is = end-place s w.rest 2 front.both (tails-many read_term tails-term a (drop 2 s) w.thing w.rest w.read) ∙ ap (λ p. drop p s) (sym w.place)

        headed : read_rule arities most (a ∷ c ∷ drop 2 s) ≡ read_body arities c w.thing (drop head.at s)
        headed = counted ∙ ap (λ z. and_then z (read_body arities c)) w.read ∙ ap (read_body arities c w.thing) rest-is

        abbrev goal_step : Front → Result Front Fault
        goal_step next = stepped (goal_marks next.notes) (length s) (read_many (read_subgoal arities) c (drop next.at s))

        pub goals-stop : (next : Front) (r' : Result Front Fault) (g : Fault) → next ≡ fresh head.at → r' ≡ goal_step next → r' ≡ Err g → Err g ≡ answer s
        unfolding whole_of
        goals-stop next r' g n' q' b' =
            let v = stopped (goal_marks none) (length s) (read_many (read_subgoal arities) c (drop head.at s)) g (sym b' ∙ q' ∙ ap goal_step n') in
            ap Err v.2 ∙ from (bad v.0) (headed ∙ ap (λ z. and_then z (as_rule w.thing)) v.1)

        module _ (next : Front) (r' : Result Front Fault) (end : Front) (n' : next ≡ fresh head.at) (q' : r' ≡ goal_step next) (b' : r' ≡ Ok end) where
          v : Went (goal_marks none) (length s) (read_many (read_subgoal arities) c (drop head.at s)) end
          v = went (goal_marks none) (length s) (read_many (read_subgoal arities) c (drop head.at s)) end (sym b' ∙ q' ∙ ap goal_step n')

          left_is : v.rest ≡ drop end.at s
          left_is = end-place s v.rest head.at head-within (tails-many (read_subgoal arities) (tails-subgoal arities) c (drop head.at s) v.thing v.rest v.read) ∙ ap (λ p. drop p s) (sym v.place)

          bodied : read_rule arities most (a ∷ c ∷ drop 2 s) ≡ as_rule w.thing v.thing (drop end.at s)
          bodied = headed ∙ ap (λ z. and_then z (as_rule w.thing)) v.read ∙ ap (as_rule w.thing v.thing) left_is

          ends : (l : List ℕ) (hs : List (Term ℕ)) (gs : List (Subgoal (Term ℕ))) → 1 ≤ length l → as_rule hs gs l ≡ bad over
          ends [] hs gs k = absurd (omega arith)
          ends (x ∷ l) hs gs k = refl

          pub bytes-over : end.at < length s → Err Over ≡ answer s
          unfolding whole_of
          bytes-over k = from (bad over) (bodied ∙ ends (drop end.at s) w.thing v.thing (omega (arith, length-drop end.at s)))

          nothing : (l : List ℕ) (hs : List (Term ℕ)) (gs : List (Subgoal (Term ℕ))) → length l < 1 → as_rule hs gs l ≡ got (record { head = hs; body = gs }) []
          nothing [] hs gs k = refl
          nothing (x ∷ l) hs gs k = absurd (omega arith)

          pub all_read : length s ≤ end.at → Ok (record { head = head.notes; body = end.notes }) ≡ answer s
          unfolding whole_of
          all_read k =
              ap₂ (λ x y. Ok (record { head = x; body = y })) w.notes v.notes
              ∙ from (got (record { head = w.thing; body = v.thing }) []) (bodied ∙ nothing (drop end.at s) w.thing v.thing (omega (arith, length-drop end.at s)))
