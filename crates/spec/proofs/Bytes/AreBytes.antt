-- What is written is bytes: every number of it is below 256.
use mathlib.Core.Path.{refl, sym}
use mathlib.Core.List.Memᴰ
use mathlib.Core.List.{List, [], ◌∷◌, ◌++◌, map, map-map}
use Prim.Native.Nat.{ℕ, ◌+◌, ◌<◌}
use native.Mathlib.Omega.{arith}
use lib.ListN.{length}
use Rattle.spec.specs.Words.{◌∈◌, Term, var, con, Subgoal, Rule}
use Rattle.spec.specs.Summaries.{joined}
use Rattle.spec.specs.Book.{Book}
use Rattle.spec.specs.Numbers.{little, Bytes}
use Rattle.spec.specs.RuleLayout.{term_bytes, terms_bytes, subgoal_bytes, rule_bytes, RuleWithin}
use Rattle.spec.specs.BookLayout.{StampedBody, contents_end, contents_from, entries_of, entry_of, bodies, book_bytes, question_most, summary_most, Arities, SoundValue, SoundBook}
use Rattle.spec.proofs.Bytes.NumberLaws.{bytes-little, bytes-cons, bytes-append}

-- `Bytes` with the list in sight, so that it need not be written at each step.
record Written (l : List ℕ) : Type 0 where
  bytes : Bytes l

none : Written []
none = record { bytes = λ i. omega arith }

first : {a : ℕ} {l : List ℕ} → a < 256 → Written l → Written (a ∷ l)
first {a} {l} h w = record { bytes = bytes-cons a l h w.bytes }

both : {l m : List ℕ} → Written l → Written m → Written (l ++ m)
both {l} {m} v w = record { bytes = bytes-append l m v.bytes w.bytes }

number : (many n : ℕ) → Written (little many n)
number many n = record { bytes = bytes-little many n }

each : (l : List ℕ) → ((a : ℕ) → a ∈ l → a < 256) → Written l
each [] h = none
each (a ∷ l) h = first (h a (Memᴰ.head refl)) (each l (λ b m. h b (Memᴰ.tail m)))

all : {A : Type 0} (f : A → List ℕ) (l : List A) → ((a : A) → a ∈ l → Written (f a)) → Written (joined (map f l))
all f [] h = none
all f (a ∷ l) h = both (h a (Memᴰ.head refl)) (all f l (λ b m. h b (Memᴰ.tail m)))

term : (t : Term ℕ) → Written (term_bytes t)
term (var v) = first (omega arith) (number 4 v)
term (con c) = first (omega arith) (number 4 c)

terms : (ts : List (Term ℕ)) → Written (terms_bytes ts)
terms ts = all term_bytes ts (λ t m. term t)

rule : (r : Rule ℕ) → length r.head < 256 → length r.body < 256 → ((g : Subgoal (Term ℕ)) → g ∈ r.body → g.relation < 256) → Written (rule_bytes r)
rule r short few relations =
    first short (first few (both (terms r.head) (all subgoal_bytes r.body (λ g m. first (relations g m) (terms g.terms)))))

within : {arities : List ℕ} → Arities arities → (most : ℕ) → most < 256 → (r : Rule ℕ) → RuleWithin arities most r → Written (rule_bytes r)
within a most h r w =
    rule r (let short = w.short in omega arith) (let few = w.few in omega arith) (λ g m. let known = (w.fit g m).known in let few = a.few in omega arith)

contents : (at : ℕ) (es : List StampedBody) → Written (contents_from at es)
contents at [] = none
contents at (e ∷ es) = both (number 4 at) (both (number 4 (length e.body)) (both (number 4 e.stamp) (contents (at + length e.body) es)))

-- Any rule whose counts and relations fit a byte: the answer is one too.
pub rule-bytes : (r : Rule ℕ) → length r.head < 256 → length r.body < 256 → ((g : Subgoal (Term ℕ)) → g ∈ r.body → g.relation < 256) → Bytes (rule_bytes r)
rule-bytes r short few relations = (rule r short few relations).bytes

module _ (b : Book) (v : SoundValue b) where
  arities : Written b.arities
  arities = each b.arities (λ a m. let range = v.arities.range a m in omega arith)

  others : Written (joined (bodies (map entry_of b.summaries)))
  others = rw (map-map (λ (e : StampedBody). e.body) entry_of b.summaries) (all (λ s. rule_bytes s.rule) b.summaries (λ s m. within v.arities summary_most (omega arith) s.rule (v.summaries s m).within))

  book : Written (book_bytes b)
  unfolding book_bytes
  book =
      both (number 2 (length b.summaries)) (both (contents (contents_end (length b.summaries)) (entries_of b)) (both arities (both (within v.arities question_most (omega arith) b.question v.question.within) others)))

pub book-bytes : {bytes : List ℕ} {b : Book} → SoundBook bytes b → Bytes bytes
book-bytes {bytes} {b} s = rw (sym s.written) (book b s.value).bytes
