-- Numbers, terms, rules and books as bytes, written out, and what is at the bounds and just past them.
use mathlib.Core.Path.{◌≡◌, refl}
use mathlib.Core.List.Memᴰ
use mathlib.Core.List.{[], ◌∷◌, map}
use Prim.Native.Nat.{ℕ, ◌≤◌}
use native.Mathlib.Omega.{arith}
use lib.Dec.{lit<}
use lib.ListN.{replicate}
use Rattle.spec.specs.Words.{var, con}
use Rattle.spec.specs.Book.{Book}
use Rattle.spec.specs.Numbers.{little, value, Bytes, number_at}
use Rattle.spec.specs.RuleLayout.{term_bytes, rule_bytes, TermWithin, RuleWithin}
use Rattle.spec.specs.BookLayout.{entries, contents_end, book_bytes, SoundValue}
use Rattle.spec.specs.Contents.{count, entries_in, offset_at, length_at, stamp_at, part_at, begin_at}
use Rattle.spec.specs.Refusals.{most_at}
use Rattle.spec.proofs.Examples.Written.{x0, x1, rule, on, stamped}
use Rattle.spec.proofs.Examples.ContentsExamples.{plain}

-- "Numbers are little_endian."
little_endian : little 4 305419896 ≡ 120 ∷ 86 ∷ 52 ∷ 18 ∷ []
little_endian = refl

valued : value (120 ∷ 86 ∷ 52 ∷ 18 ∷ []) ≡ 305419896
valued = refl

highest : little 4 4294967295 ≡ 255 ∷ 255 ∷ 255 ∷ 255 ∷ []
highest = refl

number-within : number_at 2 (1 ∷ 2 ∷ 3 ∷ 4 ∷ []) 1 ≡ 770
unfolding number_at
number-within = refl

no_byte : Bytes (255 ∷ 256 ∷ []) → ⊥
no_byte h = omega (arith, h 1)

-- "one byte 0 (variable) or 1 (constant), then four bytes"
variable-bytes : term_bytes (var 31) ≡ 0 ∷ 31 ∷ 0 ∷ 0 ∷ 0 ∷ []
variable-bytes = refl

constant-bytes : term_bytes (con 258) ≡ 1 ∷ 2 ∷ 1 ∷ 0 ∷ 0 ∷ []
constant-bytes = refl

-- "one byte head length, one byte subgoal count, the head's terms, then each subgoal: one byte relation number, its terms": (X1) from 4(X0,7), 3(X1)
rule-bytes : rule_bytes (rule (x1 ∷ []) (on 4 (x0 ∷ con 7 ∷ []) ∷ on 3 (x1 ∷ []) ∷ []))
    ≡ 1 ∷ 2 ∷ 0 ∷ 1 ∷ 0 ∷ 0 ∷ 0 ∷ 4 ∷ 0 ∷ 0 ∷ 0 ∷ 0 ∷ 0 ∷ 1 ∷ 7 ∷ 0 ∷ 0 ∷ 0 ∷ 3 ∷ 0 ∷ 1 ∷ 0 ∷ 0 ∷ 0 ∷ []
rule-bytes = refl

-- "a variable, numbered 0 to 31, or a constant, any 32-bit number"
last-variable : TermWithin (var 31)
last-variable = lit< tt

no-variable : TermWithin (var 32) → ⊥
no-variable h = omega arith

last-constant : TermWithin (con 4294967295)
last-constant = lit< tt

no-constant : TermWithin (con 4294967296) → ⊥
no-constant h = omega arith

-- a term of the head and a term of the last subgoal count too
head-past : RuleWithin (1 ∷ []) 12 (rule (var 32 ∷ []) (on 0 (x0 ∷ []) ∷ [])) → ⊥
head-past w = omega (arith, w.head (var 32) (Memᴰ.head refl))

body-past : RuleWithin (1 ∷ []) 12 (rule [] (on 0 (x0 ∷ []) ∷ on 0 (var 32 ∷ []) ∷ [])) → ⊥
body-past w = omega (arith, w.body (on 0 (var 32 ∷ [])) (Memᴰ.tail (Memᴰ.head refl)) (var 32) (Memᴰ.head refl))

-- one subgoal more than may be
one_more : RuleWithin (1 ∷ []) 2 (rule [] (replicate 3 (on 0 (x0 ∷ [])))) → ⊥
one_more w = let h : 3 ≤ 2 = w.few in omega arith

-- "question 1 to 12, summary 1 to 8"; "entry 1 the question"
most-of-each : map most_at (1 ∷ 2 ∷ 3 ∷ 65 ∷ []) ≡ 12 ∷ 8 ∷ 8 ∷ 8 ∷ []
most-of-each = refl

-- "2 + 12 × (n + 2)"
contents-end : map contents_end (0 ∷ 3 ∷ 64 ∷ []) ≡ 26 ∷ 62 ∷ 794 ∷ []
unfolding contents_end entries
contents-end = refl

-- The contents read off: count, and of each entry offset, length, stamp and part.
counted : count plain ≡ 2
unfolding count number_at
counted = refl

all-entries : entries_in plain ≡ 4
unfolding entries_in entries count number_at
all-entries = refl

offsets : map (offset_at plain) (0 ∷ 1 ∷ 2 ∷ 3 ∷ []) ≡ 50 ∷ 52 ∷ 76 ∷ 99 ∷ []
unfolding offset_at number_at
offsets = refl

lengths : map (length_at plain) (0 ∷ 1 ∷ 2 ∷ 3 ∷ []) ≡ 2 ∷ 24 ∷ 23 ∷ 13 ∷ []
unfolding length_at number_at
lengths = refl

stamps : map (stamp_at plain) (0 ∷ 1 ∷ 2 ∷ 3 ∷ []) ≡ 0 ∷ 1 ∷ 1 ∷ 1 ∷ []
unfolding stamp_at number_at
stamps = refl

beginnings : map (begin_at plain) (0 ∷ 1 ∷ 4 ∷ []) ≡ 50 ∷ 52 ∷ 112 ∷ []
unfolding contents_end entries count offset_at length_at number_at
beginnings = refl

relations-part : part_at plain 0 ≡ 2 ∷ 1 ∷ []
unfolding part_at offset_at length_at number_at
relations-part = refl

last-part : part_at plain 3 ≡ 1 ∷ 1 ∷ 0 ∷ 0 ∷ 0 ∷ 0 ∷ 0 ∷ 1 ∷ 0 ∷ 0 ∷ 0 ∷ 0 ∷ 0 ∷ []
unfolding part_at offset_at length_at number_at
last-part = refl

-- The same bytes from the value: contents first, then the bodies.
abbrev pub plain_value : Book
plain_value = record {
  arities = 2 ∷ 1 ∷ [];
  need = 1;
  question = rule (x0 ∷ []) (on 0 (x0 ∷ x1 ∷ []) ∷ on 1 (x1 ∷ []) ∷ []);
  summaries = stamped 1 (rule (x0 ∷ x1 ∷ []) (on 0 (x0 ∷ x1 ∷ []) ∷ [])) ∷ stamped 1 (rule (x0 ∷ []) (on 1 (x0 ∷ []) ∷ [])) ∷ [];
}

written : book_bytes plain_value ≡ plain
unfolding book_bytes contents_end entries
written = refl

-- stamps have 32 bits: the need and each summary's
abbrev stamped_with : ℕ → ℕ → Book
stamped_with need stamp = record { arities = 1 ∷ []; need = need; question = rule [] (on 0 (x0 ∷ []) ∷ []); summaries = stamped stamp (rule [] (on 0 (x0 ∷ []) ∷ [])) ∷ [] }

need-past : SoundValue (stamped_with 4294967296 0) → ⊥
need-past v = omega (arith, v.need)

stamp-past : SoundValue (stamped_with 0 4294967296) → ⊥
stamp-past v = omega (arith, (v.summaries (stamped 4294967296 (rule [] (on 0 (x0 ∷ []) ∷ []))) (Memᴰ.head refl)).stamp)
