-- "The longest sound book has 25,040 bytes, the shortest 35": there are sound books of these sizes.
use mathlib.Core.Path.{◌≡◌, refl, sym, ap, ◌∙◌}
use mathlib.Core.List.Memᴰ
use mathlib.Core.List.{List, [], ◌∷◌}
use Prim.Native.Nat.{ℕ, zero, suc, ◌<◌, ◌≤◌}
use native.Mathlib.Omega.{arith}
use native.Mathlib.Decide.{ℕ_discrete}
use lib.ListN.{length, replicate, length-replicate, get_or-replicate}
use Rattle.spec.specs.Words.{◌∈◌, Term, var, Subgoal, Rule, Safe, DistinctVariables, Fits}
use Rattle.spec.specs.Book.{Summary, Book}
use Rattle.spec.specs.RuleLayout.{TermsWithin, RuleWithin}
use Rattle.spec.specs.BookLayout.{entries, contents_end, most_summaries, question_most, summary_most, book_bytes, SoundSummary, SoundValue}
use Rattle.spec.specs.Refusals.{longest}

in-replicate : {A : Type 0} (n : ℕ) (a b : A) → b ∈ replicate n a → b ≡ a
in-replicate zero a b m = absurd (Memᴰ.not-nil m)
in-replicate (suc n) a b (Memᴰ.head e) = e
in-replicate (suc n) a b (Memᴰ.tail m) = in-replicate n a b m

replicate-in : {A : Type 0} (n : ℕ) (a : A) → 1 ≤ n → a ∈ replicate n a
replicate-in zero a h = absurd (omega arith)
replicate-in (suc n) a h = Memᴰ.head refl

-- So many variables, each once.
abbrev first_variables : ℕ → List (Term ℕ)
first_variables zero = []
first_variables (suc k) = var k ∷ first_variables k

variables-many : (k : ℕ) → length (first_variables k) ≡ k
variables-many zero = refl
variables-many (suc k) = ap suc (variables-many k)

variable-less : (k x : ℕ) → var x ∈ first_variables k → x < k
variable-less zero x m = absurd (Memᴰ.not-nil m)
variable-less (suc k) x (Memᴰ.head e) = let same : x ≡ k = cc in omega arith
variable-less (suc k) x (Memᴰ.tail m) = let less = variable-less k x m in omega arith

variable-in : (k x : ℕ) → x < k → var x ∈ first_variables k
variable-in zero x h = absurd (omega arith)
variable-in (suc k) x h = go (ℕ_discrete x k) (variable-in k x)
  where
    go : Dec (x ≡ k) → (x < k → var x ∈ first_variables k) → var x ∈ (var k ∷ first_variables k)
    go (yes e) below = Memᴰ.head (ap var e)
    go (no f) below = Memᴰ.tail (below (omega arith))

variables-within : (k : ℕ) → k ≤ 32 → TermsWithin (first_variables k)
variables-within zero h t m = absurd (Memᴰ.not-nil m)
variables-within (suc k) h t (Memᴰ.head e) = rw e (omega arith)
variables-within (suc k) h t (Memᴰ.tail m) = variables-within k (omega arith) t m

variables-distinct : (k : ℕ) → DistinctVariables (first_variables k)
variables-distinct zero = tt
variables-distinct (suc k) = (λ m. let less = variable-less k k m in omega arith, variables-distinct k)

-- The rule with a head of h variables and so many subgoals of k variables.
abbrev subgoal_of : ℕ → Subgoal (Term ℕ)
subgoal_of k = record { relation = 0; terms = first_variables k }

abbrev sized_rule : ℕ → ℕ → ℕ → Rule ℕ
sized_rule h k many = record { head = first_variables h; body = replicate many (subgoal_of k) }

abbrev summary_of : ℕ → ℕ → ℕ → Summary
summary_of h k many = record { stamp = 0; rule = sized_rule h k many }

-- A book of such rules (its stamps have no part in its size): how many relations, how long its heads and its rows, how many subgoals its question and its summaries have, how many summaries.
book_of : ℕ → ℕ → ℕ → ℕ → ℕ → ℕ → Book
book_of relations h k question summary n = record {
  arities = replicate relations k;
  need = 0;
  question = sized_rule h k question;
  summaries = replicate n (summary_of h k summary);
}

record Shape (relations h k question summary n : ℕ) : Type 0 where
  some : 1 ≤ relations
  few : relations ≤ 32
  short : h ≤ 8
  safe : h ≤ k
  tall : 1 ≤ k
  wide : k ≤ 8
  asks : 1 ≤ question
  most : question ≤ question_most
  sums : 1 ≤ summary
  most' : summary ≤ summary_most
  all : n ≤ most_summaries

module _ (relations h k question summary n : ℕ) (b : Shape relations h k question summary n) where
  rule-within : (many most : ℕ) → 1 ≤ many → many ≤ most → RuleWithin (replicate relations k) most (sized_rule h k many)
  rule-within many most l m = record {
    short = let u = b.short in omega (arith, variables-many h);
    some = omega (arith, length-replicate many (subgoal_of k));
    few = omega (arith, length-replicate many (subgoal_of k));
    head = variables-within h (let u = b.short in omega arith);
    fit = λ g i. rw (in-replicate many (subgoal_of k) g i) fits;
    body = λ g i. rw (in-replicate many (subgoal_of k) g i) (variables-within k (let u = b.wide in omega arith));
  }
    where
      fits : Fits (replicate relations k) (subgoal_of k)
      fits = record { known = let u = b.some in omega (arith, length-replicate relations k); long = variables-many k ∙ sym (get_or-replicate relations 0 k 0 b.some) }

  rule-safe : (many : ℕ) → 1 ≤ many → Safe (sized_rule h k many)
  rule-safe many l x m = (subgoal_of k, replicate-in many (subgoal_of k) l, variable-in k x (let less = variable-less h x m in let u = b.safe in omega arith))

  summary-sound : SoundSummary (replicate relations k) (summary_of h k summary)
  summary-sound = record { stamp = omega arith; within = rule-within summary summary_most b.sums b.most'; safe = rule-safe summary b.sums; plain = variables-distinct h }

  book-sound : SoundValue (book_of relations h k question summary n)
  unfolding book_of
  book-sound = record {
    arities = record { some = let u = b.some in omega (arith, length-replicate relations k); few = let u = b.few in omega (arith, length-replicate relations k); range = λ a i. rw (in-replicate relations k a i) (b.tall, b.wide) };
    need = omega arith;
    question = record { within = rule-within question question_most b.asks b.most; safe = rule-safe question b.asks };
    few = let u = b.all in omega (arith, length-replicate n (summary_of h k summary));
    summaries = λ u i. rw (in-replicate n (summary_of h k summary) u i) summary-sound;
  }

-- One relation of one place, a question of one subgoal and no head, no summaries.
pub shortest-reached : (b : Book) × SoundValue b × (length (book_bytes b) ≡ 35)
unfolding book_of book_bytes contents_end entries
shortest-reached = (book_of 1 0 1 1 1 0, book-sound 1 0 1 1 1 0 (omega arith), refl)

-- Every bound met.
pub longest-reached : (b : Book) × SoundValue b × (length (book_bytes b) ≡ longest)
unfolding book_of book_bytes contents_end entries longest
longest-reached = (book_of 32 8 8 question_most summary_most most_summaries, book-sound 32 8 8 question_most summary_most most_summaries (omega arith), refl)
