-- A sound book's value grants the bounds; summary rows lie within them.
use mathlib.Core.Path.{◌≡◌, sym, ap, ◌∙◌, subst}
use mathlib.Core.List.Memᴰ
use mathlib.Core.List.{List}
use Prim.Native.Nat.{ℕ, ◌≤◌}
use native.Mathlib.Omega.{arith}
use lib.ListN.{length, get_or}
use Rattle.spec.specs.Words.{◌∈◌, Term, var, con, Subgoal, Rule, Fits, becomes, each}
use Rattle.spec.specs.Summaries.{Summaries, SummaryRow}
use Rattle.spec.specs.Book.{Summary, Book, admitted_of}
use Rattle.spec.specs.RuleLayout.{TermWithin, TermsWithin, RuleWithin}
use Rattle.spec.specs.BookLayout.{Arities, SoundValue, SoundSummary, summary_most}
use Rattle.spec.proofs.Lists.At.{get_or-in}
use Rattle.containment.proofs.Held.{Every}
use Rattle.containment.proofs.Sound.{admitted-from}
use Rattle.outcomes.specs.Bounds.{Bounds, RowsWithin}

sound-admitted : (b : Book) → SoundValue b → Every (admitted_of b) (λ r. (m : Summary) × SoundSummary b.arities m × (m.rule ≡ r))
sound-admitted b sound n r e = let w = admitted-from b n r e in (w.0, sound.summaries w.0 w.1, w.2)

-- The law of books.
pub book-bounds : (b : Book) → SoundValue b → Bounds b.arities (admitted_of b) b.question
book-bounds b sound = record {
  relations = sound.arities;
  question = sound.question.within;
  summaries = λ n r e. let w = sound-admitted b sound n r e in subst (RuleWithin b.arities summary_most) w.2 w.1.within;
  safe = λ n r e. let w = sound-admitted b sound n r e in rw w.2 at w.1.safe;
}

-- A subgoal that fits has at most eight terms; two that fit and have one relation are as long as each other.
module _ (arities : List ℕ) (a : Arities arities) where
  pub fits-room : {A : Type 0} (g : Subgoal A) → Fits arities g → length g.terms ≤ 8
  fits-room g f = let w = a.range (get_or arities g.relation 0) (get_or-in 0 arities g.relation f.known) in omega (arith, f.long)

pub fits-alike : {A B : Type 0} (arities : List ℕ) (g : Subgoal A) (h : Subgoal B) → Fits arities g → Fits arities h → g.relation ≡ h.relation → length g.terms ≡ length h.terms
fits-alike arities g h f k e = f.long ∙ ap (λ n. get_or arities n 0) e ∙ sym k.long

module _ (arities : List ℕ) (s : Summaries) (q : Rule ℕ) (bounds : Bounds arities s q) where
  -- each term of a row stands in the question, or is a constant of the summary's head
  row_within : (g : Subgoal (Term ℕ)) → SummaryRow s q g → TermsWithin g.terms
  row_within g y t m = let w = Memᴰ.of_map (becomes con y.yields.value) y.rule.head (subst (λ l. t ∈ l) (sym y.yields.gives) m) in subst TermWithin w.2 (one w.0 w.1)
    where
      one : (h : Term ℕ) → h ∈ y.rule.head → TermWithin (becomes con y.yields.value h)
      one (var x) i =
          let b = bounds.safe g.relation y.rule y.admitted x i in
          bounds.question.body (each (becomes con y.yields.value) b.0) (y.yields.holds b.0 b.1) (y.yields.value x) (Memᴰ.map (becomes con y.yields.value) b.2)
      one (con k) i = (bounds.summaries g.relation y.rule y.admitted).head (con k) i

  pub rows-bounds : (l : List (Subgoal (Term ℕ))) → ((g : Subgoal (Term ℕ)) → g ∈ l → SummaryRow s q g) → RowsWithin s l
  rows-bounds l rows = record { over = λ g m. let y = rows g m in (y.rule, y.admitted); within = λ g m. row_within g (rows g m) }
