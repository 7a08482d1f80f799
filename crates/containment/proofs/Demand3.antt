-- Demand 3, of a book: one statement.
use Prim.Native.Nat.{ℕ}
use Rattle.spec.specs.Words.{Rule, Listed, itself}
use Rattle.spec.specs.Summaries.{Yielded}
use Rattle.spec.specs.Book.{Book, admitted_of}
use Rattle.spec.specs.Demand.{OverAdmitted, Demand3, DiffersSomewhere, Granted}
use Rattle.spec.proofs.Held.{yielded-just}
use Rattle.spec.proofs.Decided.Equal.{eq_number}
use Rattle.containment.proofs.Same.{rewrites-held}
use Rattle.containment.proofs.Differ.{Differs, answer-differs, refused-differs, differs-held}
use Rattle.containment.proofs.Sound.{sound-fits, sound-safe}

somewhere : (b : Book) (p : Rule ℕ) → OverAdmitted (admitted_of b) p → Differs b.arities (admitted_of b) b.question p → DiffersSomewhere b p
somewhere b p over w = record { facts = w.facts; fit = w.fit; row = w.row; stored = Yielded itself (admitted_of b) (Listed w.facts); stored_just = yielded-just (admitted_of b) (Listed w.facts); differs = differs-held b.arities (admitted_of b) b.question p over w }

pub demand3 : (b : Book) → Granted b → Demand3 b
demand3 b sound = record {
  same = λ l a facts fit held just row. rewrites-held (admitted_of b) b.question l a.holds (Listed facts) held just row;
  fewer = λ l a p over few. somewhere b p over (answer-differs b.arities (admitted_of b) b.question p eq_number (sound-safe b sound) sound.question_fits (sound-fits b sound) l a few);
  refused = λ never p over. somewhere b p over (refused-differs b.arities (admitted_of b) b.question p eq_number (sound-safe b sound) sound.question_fits (sound-fits b sound) never);
}
