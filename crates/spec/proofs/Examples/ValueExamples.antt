-- A value that is sound, and values that are not for one reason each: what a sound book may not mean.
use mathlib.Core.Path.{refl}
use mathlib.Core.List.Memᴰ
use mathlib.Core.List.{List, [], ◌∷◌, map}
use Prim.Native.Nat.{ℕ, ◌≤◌}
use native.Mathlib.Omega.{arith}
use lib.ListN.{replicate}
use Rattle.spec.specs.Words.{con, Rule}
use Rattle.spec.specs.Book.{Book}
use Rattle.spec.specs.BookLayout.{entries, contents_end, book_bytes, Arities, SoundSummary, SoundValue, SoundBook}
use Rattle.spec.proofs.Decided.Equal.{eq_number}
use Rattle.spec.proofs.Decided.Safety.{safe-complete}
use Rattle.spec.proofs.Examples.Written.{x0, x1, rule, on, stamped}
use Rattle.spec.proofs.Bytes.SoundTest.{book-sound, distinct-complete, relations-sound, relations-complete}
use Rattle.spec.proofs.Examples.ContentsExamples.{plain}
use Rattle.spec.proofs.Examples.BoundExamples.{plain_value}

plain-sound : SoundBook plain plain_value
unfolding book_bytes contents_end entries
plain-sound = book-sound plain plain_value tt

-- "1 to 32 bytes, each an arity 1 to 8"
all-arities : Arities (1 ∷ 8 ∷ replicate 30 4)
all-arities = relations-sound (1 ∷ 8 ∷ replicate 30 4) tt

no-relations : Arities [] → ⊥
no-relations = relations-complete []

too-many-relations : Arities (replicate 33 1) → ⊥
too-many-relations = relations-complete (replicate 33 1)

last-arity-0 : Arities (1 ∷ 0 ∷ []) → ⊥
last-arity-0 = relations-complete (1 ∷ 0 ∷ [])

last-arity-9 : Arities (1 ∷ 9 ∷ []) → ⊥
last-arity-9 = relations-complete (1 ∷ 9 ∷ [])

-- () from 0(X0); (X1) from 0(X0), which is not safe
abbrev fine : Rule ℕ
fine = rule [] (on 0 (x0 ∷ []) ∷ [])

abbrev unsafe : Rule ℕ
unsafe = rule (x1 ∷ []) (on 0 (x0 ∷ []) ∷ [])

abbrev asking : Rule ℕ → List (Rule ℕ) → Book
asking question rules = record { arities = 1 ∷ []; need = 0; question = question; summaries = map (stamped 0) rules }

unsafe-question : SoundValue (asking unsafe []) → ⊥
unsafe-question v = safe-complete eq_number unsafe v.question.safe

long-question : SoundValue (asking (rule [] (replicate 13 (on 0 (x0 ∷ [])))) []) → ⊥
long-question v = let h : 13 ≤ 12 = v.question.within.few in omega arith

-- what is said of a sound book's last summary, the second here
module _ (r : Rule ℕ) (v : SoundValue (asking fine (fine ∷ r ∷ []))) where
  last : SoundSummary (1 ∷ []) (stamped 0 r)
  last = v.summaries (stamped 0 r) (Memᴰ.tail (Memᴰ.head refl))

unsafe-summary : SoundValue (asking fine (fine ∷ unsafe ∷ [])) → ⊥
unsafe-summary v = safe-complete eq_number unsafe (last unsafe v).safe

variable-twice : SoundValue (asking fine (fine ∷ rule (x0 ∷ x0 ∷ []) (on 0 (x0 ∷ []) ∷ []) ∷ [])) → ⊥
variable-twice v = distinct-complete (x0 ∷ x0 ∷ []) (last (rule (x0 ∷ x0 ∷ []) (on 0 (x0 ∷ []) ∷ [])) v).plain

constant-in-a-head : SoundValue (asking fine (fine ∷ rule (con 0 ∷ []) (on 0 (x0 ∷ []) ∷ []) ∷ [])) → ⊥
constant-in-a-head v = distinct-complete (con 0 ∷ []) (last (rule (con 0 ∷ []) (on 0 (x0 ∷ []) ∷ [])) v).plain

long-summary : SoundValue (asking fine (fine ∷ rule [] (replicate 9 (on 0 (x0 ∷ []))) ∷ [])) → ⊥
long-summary v = let h : 9 ≤ 8 = (last (rule [] (replicate 9 (on 0 (x0 ∷ [])))) v).within.few in omega arith

-- "the count n of summaries, 0 to 64"
too-many-summaries : SoundValue (asking fine (replicate 65 fine)) → ⊥
too-many-summaries v = let h : 65 ≤ 64 = v.few in omega arith
