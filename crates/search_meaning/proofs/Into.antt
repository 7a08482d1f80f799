-- From the question into the uses of a list of rows: the search's places are those of mappings that keep the head.
use mathlib.Core.Path.{◌≡◌, refl, sym, ap, ◌∙◌}
use mathlib.Core.Logic.{◌↔◌}
use mathlib.Core.List.{List, map}
use Prim.Native.Nat.{ℕ, suc, ◌+◌, ◌<◌, ◌≤◌}
use native.Mathlib.Omega.{arith}
use lib.ListN.{length, get_or}
use Rattle.spec.specs.Words.{◌∈◌, Term, var, con, Subgoal, Rule, becomes, each}
use Rattle.spec.specs.Summaries.{Summaries, Own, old, uses, joined}
use Rattle.spec.specs.Answer.{AtPlaces}
use Rattle.spec.proofs.Lists.Counted.{place_in}
use Rattle.containment.proofs.Places.{used}
use Rattle.choice_theory.specs.Numbered.{kept_head}
use Rattle.choice_theory.proofs.Placing.{keeps-head}
use Rattle.outcomes.specs.Bounds.{Bounds, RowsWithin}
use Rattle.outcomes.proofs.Bounds.{fits-room, fits-alike}
use Rattle.codes.specs.Code.{own_code}
use Rattle.task.specs.Task.{Task, Sized}
use Rattle.task.specs.Mapped.{Mapped}
use Rattle.search_meaning.specs.Coded.{TermIn, Sent}
use Rattle.search_meaning.specs.Codings.{slot_naming, own_coding, read_own, OwnWithin, RuleSource}
use Rattle.search_meaning.specs.HeadBound.{HeadBound}
use Rattle.search_meaning.specs.Tasks.{there_task}
use Rattle.search_meaning.proofs.Read.{read-own, own-solid}
use Rattle.search_meaning.proofs.Slots.{slots-sent}
use Rattle.search_meaning.proofs.Sizes.{sized}
use Rattle.search_meaning.proofs.InUse.{of-use-within, use-terms, uses-fit, uses-few}

-- Values that send the question's subgoals to those of the uses at the places, head to head.
pub record Into (s : Summaries) (q : Rule ℕ) (l : List (Subgoal (Term ℕ))) (places : List ℕ) : Type 0 where
  pub value : ℕ → Term (Own ℕ)
  pub gives : map (becomes con value) q.head ≡ kept_head q
  pub sends : AtPlaces (joined (uses s 0 l)) (map suc places) (map (each (becomes con value)) q.body)

module _ (arities : List ℕ) (s : Summaries) (q : Rule ℕ) (bounds : Bounds arities s q) (l : List (Subgoal (Term ℕ))) (rows : RowsWithin s l) where
  abbrev tgt : List (Subgoal (Term (Own ℕ)))
  tgt = joined (uses s 0 l)

  pub uses-within : (t : Term (Own ℕ)) → TermIn t tgt → OwnWithin t
  uses-within t i =
      let w = used s 0 l i.0 i.1 in
      of-use-within (w.by + 0) t (use-terms arities s q bounds l rows w.of (place_in l (suc w.by) w.at) (w.by + 0) i.0 w.inside t i.2)

  room : (g : Subgoal (Term ℕ)) → g ∈ q.body → length g.terms ≤ 8
  room g m = fits-room arities bounds.relations g (bounds.question.fit g m)

  module _ (lasts own b : List ℕ) (owned : length own ≡ length tgt) where
    abbrev p : Task
    p = there_task s q l lasts own

    pub there-sized : length l ≤ 64 → length lasts ≡ length q.body → ((k : ℕ) → get_or own k 0 < 64) → Sized p
    there-sized few marked sets = sized slot_naming own_coding q.body lasts tgt own record {
      few = omega (arith, bounds.question.few);
      many = omega (arith, uses-few arities s q bounds 0 l rows);
      room = room;
      marked = marked;
      rows = owned;
      sets = sets;
      solid = λ t i. own-solid t;
    }

    module _ (head : HeadBound q.head b) where
      low : (x : ℕ) → var x ∈ q.head → x < 32
      low x m = bounds.question.head (var x) m

      -- a head variable's code read back
      bound-read : (x : ℕ) → var x ∈ q.head → read_own (get_or b x 0) ≡ var (old x)
      bound-read x m = ap read_own (head.bound x m) ∙ read-own (var (old x)) (low x m)

      source : RuleSource own_coding q.body tgt own b
      source = record {
        room = room;
        alike = λ g h i j. fits-alike arities g h (bounds.question.fit g i) (uses-fit arities s q bounds l rows h j);
        rows = owned;
        source = λ t i. bounds.question.body i.0 i.1 t i.2;
        target = λ t i. read-own t (uses-within t i);
        constants = λ k h. (refl, read-own (con k) h);
        low = λ x o. low x (head.only x o);
        given = λ x o. ap own_code (bound-read x (head.only x o)) ∙ sym (head.bound x (head.only x o));
      }

      sent-into : (places : List ℕ) → Sent own_coding (λ x. x) q.body tgt b places → Into s q l places
      sent-into places m = record { value = m.value; gives = (keeps-head q m.value).1 (λ x i. m.extends x (λ z. omega (arith, head.bound x i)) ∙ bound-read x i); sends = m.sends }

      into-sent : (places : List ℕ) → Into s q l places → Sent own_coding (λ x. x) q.body tgt b places
      into-sent places t = record { value = t.value; sends = t.sends; extends = λ x o. (keeps-head q t.value).0 t.gives x (head.only x o) ∙ sym (bound-read x (head.only x o)) }

      -- The law.
      pub into-is : (places : List ℕ) → Mapped p b places ↔ Into s q l places
      into-is places = let w = slots-sent own_coding q.body lasts tgt own b source places in (λ m. sent-into places (w.0 m), λ t. w.1 (into-sent places t))
