-- What a sound book grants the theory.
use Rattle.spec.specs.Book.{Book, admitted_of}
use Rattle.spec.specs.BookLayout.{SoundValue}
use Rattle.spec.specs.Demand.{Granted}
use Rattle.spec.proofs.Decided.Sound.{AllSafe}
use Rattle.containment.proofs.Sound.{sound-safe}

pub value-granted : {b : Book} → SoundValue b → Granted b
value-granted v = record {
  question_fits = v.question.within.fit;
  question_safe = v.question.safe;
  summaries_sound = λ m i. let s = v.summaries m i in record { fits = s.within.fit; safe = s.safe; distinct = s.plain };
}

pub value-safe : {b : Book} → SoundValue b → AllSafe (admitted_of b)
value-safe {b} v = sound-safe b (value-granted v)
