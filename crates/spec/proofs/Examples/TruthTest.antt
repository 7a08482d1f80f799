-- Whether the checker says yes, as a test: the rewriting read as a rule over the summaries' heads, and the witness sought among all that there are.
use mathlib.Core.Path.{◌≡◌, refl, sym, subst}
use mathlib.Core.Bool.{Bool, false, ◌&&◌}
use mathlib.Core.Option.{Option, some, none}
use mathlib.Core.List.Memᴰ
use mathlib.Core.List.{List, ◌++◌, map}
use Prim.Native.Nat.{ℕ}
use lib.ListN.{length}
use lib.Dec.{T, eqb, eqb→eq}
use Rattle.spec.specs.Words.{◌∈◌, Term, Subgoal, Rule}
use Rattle.spec.specs.Summaries.{summary, Over}
use Rattle.spec.specs.Answer.{There, Back}
use Rattle.spec.specs.Book.{Book, admitted_of}
use Rattle.spec.specs.Numbers.{Bytes}
use Rattle.spec.specs.RuleLayout.{Layout, rule_bytes}
use Rattle.spec.specs.BookLayout.{SoundBook, question_most}
use Rattle.spec.specs.Truth.{RewritingRule, Truth}
use Rattle.spec.proofs.Lists.Tests.{and_parts, and_both, every, every-sound, every-complete}
use Rattle.spec.proofs.Decided.Equal.{eq_number, eq_term, eq_list, eq_test}
use Rattle.spec.proofs.Lists.Gathered.{gather, gather-in, gather-out}
use Rattle.spec.proofs.Decided.Witness.{theres, theres-enumerate, backs, backs-enumerate}
use Rattle.spec.proofs.Decided.WitnessTest.{is_one, one-sound, one-complete}
use Rattle.spec.proofs.Bytes.RuleReading.{Read, got, bad, read_rule}
use Rattle.spec.proofs.Bytes.RuleLaws.{read-layout, layout-read}
use Rattle.spec.proofs.Bytes.BookUnique.{book-unique}
use Rattle.spec.proofs.Bytes.HeadLengths.{head_lengths, laid_out}

module _ (b : Book) where
  -- a subgoal over an admitted summary, as long as its head
  abbrev over_one : Option (Rule ℕ) → ℕ → Bool
  over_one none n = false
  over_one (some r) n = eqb n (length r.head)

  abbrev over : Subgoal (Term ℕ) → Bool
  over g = over_one (summary (admitted_of b) g.relation) (length g.terms)

  over-sound : (g : Subgoal (Term ℕ)) → T (over g) → Over (admitted_of b) g
  over-sound g h = go (summary (admitted_of b) g.relation) refl h
    where
      go : (o : Option (Rule ℕ)) → summary (admitted_of b) g.relation ≡ o → T (over_one o (length g.terms)) → Over (admitted_of b) g
      go none e t = absurd t
      go (some r) e t = record { rule = r; admitted = e; long = eqb→eq (length g.terms) (length r.head) t }

  over-complete : (g : Subgoal (Term ℕ)) → Over (admitted_of b) g → T (over g)
  over-complete g o = rw o.admitted (eq_test eq_number (length g.terms) (length o.rule.head) o.long)

  -- every way there with every way back
  abbrev with_backs : Rule ℕ → List ℕ → List (List ℕ)
  with_backs r there = map (λ back. there ++ back) (backs (admitted_of b) b.question r)

  abbrev all_witnesses : Rule ℕ → List (List ℕ)
  all_witnesses r = gather (with_backs r) (theres (admitted_of b) b.question r)

  abbrev same_head : Rule ℕ → Bool
  same_head r = (eq_list (eq_term eq_number)).test r.head b.question.head

  abbrev read_true : Read (Rule ℕ) → List ℕ → Bool
  read_true (bad f) witness = false
  read_true (got r rest) witness = (every over r.body && same_head r) && is_one witness (all_witnesses r)

  abbrev pub is_true : List ℕ → List ℕ → Bool
  is_true rewriting witness = read_true (read_rule (head_lengths b) question_most rewriting) witness

  module _ {book : List ℕ} (sound : SoundBook book b) (rewriting witness : List ℕ) where
    pub true-sound : Bytes rewriting → T (is_true rewriting witness) → Truth book rewriting witness
    true-sound bytes h = go (read_rule (head_lengths b) question_most rewriting) refl h
      where
        go : (z : Read (Rule ℕ)) → read_rule (head_lengths b) question_most rewriting ≡ z → T (read_true z witness) → Truth book rewriting witness
        go (bad f) e t = absurd t
        go (got r rest) e t = record {
          value = b;
          sound = sound;
          rule = r;
          written = l.written;
          is = record { some = l.within.some; few = l.within.few; over = λ g m. over-sound g (every-sound over r.body v.0 g m); within = l.within.body; head = (eq_list (eq_term eq_number)).sound r.head b.question.head v.1 };
          there = way.0;
          back = home.0;
          whole = sym home.2;
          goes = (theres-enumerate (admitted_of b) b.question r).sound way.0 way.1;
          returns = (backs-enumerate (admitted_of b) b.question r).sound home.0 home.1;
        }
          where
            l : Layout (head_lengths b) question_most rewriting r
            l = layout-read (head_lengths b) question_most rewriting r rest bytes e

            w : T (every over r.body && same_head r) × T (is_one witness (all_witnesses r))
            w = and_parts (every over r.body && same_head r) (is_one witness (all_witnesses r)) t

            v : T (every over r.body) × T (same_head r)
            v = and_parts (every over r.body) (same_head r) w.0

            way : (there : List ℕ) × (there ∈ theres (admitted_of b) b.question r) × (witness ∈ with_backs r there)
            way = gather-out (with_backs r) (theres (admitted_of b) b.question r) (one-sound witness (all_witnesses r) w.1)

            home : (back : List ℕ) × (back ∈ backs (admitted_of b) b.question r) × (way.0 ++ back ≡ witness)
            home = Memᴰ.of_map (λ back. way.0 ++ back) (backs (admitted_of b) b.question r) way.2

    module _ (r : Rule ℕ) (is : RewritingRule b r) where
      complete-at : rule_bytes r ≡ rewriting → (there back : List ℕ) → witness ≡ there ++ back → There (admitted_of b) b.question r there → Back (admitted_of b) b.question r back → T (is_true rewriting witness)
      complete-at e there back whole goes returns =
          let one : (there ++ back) ∈ all_witnesses r = gather-in (with_backs r) (theres (admitted_of b) b.question r) ((theres-enumerate (admitted_of b) b.question r).complete there goes) (Memᴰ.map (λ back. there ++ back) ((backs-enumerate (admitted_of b) b.question r).complete back returns)) in
          rw (read-layout (head_lengths b) question_most rewriting r (rw e at (laid_out b sound r is))) (and_both (every over r.body && same_head r) (is_one witness (all_witnesses r))
          (and_both (every over r.body) (same_head r) (every-complete over r.body (λ g m. over-complete g (is.over g m))) (eq_test (eq_list (eq_term eq_number)) r.head b.question.head is.head))
          (one-complete witness (all_witnesses r) (Memᴰ.cast whole one)))

    pub true-complete : Truth book rewriting witness → T (is_true rewriting witness)
    true-complete t = complete-at t.rule (subst (λ v. RewritingRule v t.rule) same t.is) t.written t.there t.back t.whole
        (subst (λ (v : Book). There (admitted_of v) v.question t.rule t.there) same t.goes) (subst (λ (v : Book). Back (admitted_of v) v.question t.rule t.back) same t.returns)
      where
        same : t.value ≡ b
        same = book-unique t.sound sound
