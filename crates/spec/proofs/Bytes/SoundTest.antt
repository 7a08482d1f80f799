-- Whether bytes are a sound book of a value, as a test.
use mathlib.Core.Bool.{Bool, true, false, not, ◌&&◌}
use mathlib.Core.List.Memᴰ
use mathlib.Core.List.{List, [], ◌∷◌}
use Prim.Native.Nat.{ℕ, ◌≤◌}
use lib.ListN.{length, get_or}
use lib.Dec.{T, T_not, not_T, leb, leb→le, le→leb, ltb, ltb→lt, eqb, eqb→eq}
use Rattle.spec.specs.Words.{◌∈◌, Term, var, con, Subgoal, Rule, DistinctVariables, Fits}
use Rattle.spec.specs.Book.{Summary, Book}
use Rattle.spec.specs.RuleLayout.{TermWithin, TermsWithin, RuleWithin}
use Rattle.spec.specs.BookLayout.{most_summaries, question_most, summary_most, book_bytes, Arities, SoundQuestion, SoundSummary, SoundValue, SoundBook}
use Rattle.spec.proofs.Lists.Tests.{and_parts, and_both, every, every-sound, every-complete, any, any-sound, any-complete}
use Rattle.spec.proofs.Decided.Equal.{eq_number, eq_term, eq_list}
use Rattle.spec.proofs.Decided.Safety.{safe, safe-sound}

abbrev term_within : Term ℕ → Bool
term_within (var v) = ltb v 32
term_within (con c) = ltb c 4294967296

term-within : (t : Term ℕ) → T (term_within t) → TermWithin t
term-within (var v) h = ltb→lt v 32 h
term-within (con c) h = ltb→lt c 4294967296 h

terms-within : (ts : List (Term ℕ)) → T (every term_within ts) → TermsWithin ts
terms-within ts h t m = term-within t (every-sound term_within ts h t m)

abbrev pub distinct : List (Term ℕ) → Bool
distinct [] = true
distinct (var x ∷ ts) = not (any ((eq_term eq_number).test (var x)) ts) && distinct ts
distinct (con c ∷ ts) = false

pub distinct-sound : (ts : List (Term ℕ)) → T (distinct ts) → DistinctVariables ts
distinct-sound [] h = tt
distinct-sound (var x ∷ ts) h =
    let w = and_parts (not (any ((eq_term eq_number).test (var x)) ts)) (distinct ts) h in
    (λ m. T_not (any ((eq_term eq_number).test (var x)) ts) w.0 (any-complete ((eq_term eq_number).test (var x)) ts (var x) m ((eq_term eq_number).same (var x))), distinct-sound ts w.1)
distinct-sound (con c ∷ ts) h = absurd h

pub distinct-complete : (ts : List (Term ℕ)) → DistinctVariables ts → T (distinct ts)
distinct-complete [] h = tt
distinct-complete (con c ∷ ts) h = h
distinct-complete (var x ∷ ts) h = and_both (not (any ((eq_term eq_number).test (var x)) ts)) (distinct ts) (not_T (any ((eq_term eq_number).test (var x)) ts) again) (distinct-complete ts h.1)
  where
    again : T (any ((eq_term eq_number).test (var x)) ts) → ⊥
    again a = let w = any-sound ((eq_term eq_number).test (var x)) ts a in h.0 (Memᴰ.cast ((eq_term eq_number).sound (var x) w.0 w.2) w.1)

abbrev between : ℕ → ℕ → ℕ → Bool
between low high n = leb low n && leb n high

between-sound : (low high n : ℕ) → T (between low high n) → (low ≤ n) × (n ≤ high)
between-sound low high n h = let w = and_parts (leb low n) (leb n high) h in (leb→le low n w.0, leb→le n high w.1)

between-complete : (low high n : ℕ) → (low ≤ n) × (n ≤ high) → T (between low high n)
between-complete low high n h = and_both (leb low n) (leb n high) (le→leb low n h.0) (le→leb n high h.1)

module _ (arities : List ℕ) where
  abbrev fits : Subgoal (Term ℕ) → Bool
  fits g = ltb g.relation (length arities) && eqb (length g.terms) (get_or arities g.relation 0)

  fits-sound : (g : Subgoal (Term ℕ)) → T (fits g) → Fits arities g
  fits-sound g h =
      let w = and_parts (ltb g.relation (length arities)) (eqb (length g.terms) (get_or arities g.relation 0)) h in
      record { known = ltb→lt g.relation (length arities) w.0; long = eqb→eq (length g.terms) (get_or arities g.relation 0) w.1 }

  -- a subgoal of a rule: it fits, and its terms are within their bounds
  abbrev goal : Subgoal (Term ℕ) → Bool
  goal g = fits g && every term_within g.terms

  abbrev counts : ℕ → Rule ℕ → Bool
  counts most r = leb (length r.head) 8 && between 1 most (length r.body)

  abbrev rule_within : ℕ → Rule ℕ → Bool
  rule_within most r = counts most r && (every term_within r.head && every goal r.body)

  rule-within : (most : ℕ) (r : Rule ℕ) → T (rule_within most r) → RuleWithin arities most r
  rule-within most r h =
      let a = and_parts (counts most r) (every term_within r.head && every goal r.body) h in
      let b = and_parts (leb (length r.head) 8) (between 1 most (length r.body)) a.0 in
      let c = and_parts (every term_within r.head) (every goal r.body) a.1 in
      let n = between-sound 1 most (length r.body) b.1 in
      record {
        short = leb→le (length r.head) 8 b.0;
        some = n.0;
        few = n.1;
        head = terms-within r.head c.0;
        fit = λ g m. fits-sound g (goals c.1 g m).0;
        body = λ g m. terms-within g.terms (goals c.1 g m).1;
      }
    where
      goals : T (every goal r.body) → (g : Subgoal (Term ℕ)) → g ∈ r.body → T (fits g) × T (every term_within g.terms)
      goals t g m = and_parts (fits g) (every term_within g.terms) (every-sound goal r.body t g m)

  abbrev question : Rule ℕ → Bool
  question r = rule_within question_most r && safe eq_number r

  question-sound : (r : Rule ℕ) → T (question r) → SoundQuestion arities r
  question-sound r h = let w = and_parts (rule_within question_most r) (safe eq_number r) h in record { within = rule-within question_most r w.0; safe = safe-sound eq_number r w.1 }

  abbrev summary : Summary → Bool
  summary s = (ltb s.stamp 4294967296 && rule_within summary_most s.rule) && (safe eq_number s.rule && distinct s.rule.head)

  summary-sound : (s : Summary) → T (summary s) → SoundSummary arities s
  summary-sound s h =
      let a = and_parts (ltb s.stamp 4294967296 && rule_within summary_most s.rule) (safe eq_number s.rule && distinct s.rule.head) h in
      let b = and_parts (ltb s.stamp 4294967296) (rule_within summary_most s.rule) a.0 in
      let c = and_parts (safe eq_number s.rule) (distinct s.rule.head) a.1 in
      record { stamp = ltb→lt s.stamp 4294967296 b.0; within = rule-within summary_most s.rule b.1; safe = safe-sound eq_number s.rule c.0; plain = distinct-sound s.rule.head c.1 }

  abbrev pub relations : Bool
  relations = between 1 32 (length arities) && every (between 1 8) arities

  pub relations-sound : T relations → Arities arities
  relations-sound h =
      let w = and_parts (between 1 32 (length arities)) (every (between 1 8) arities) h in
      let n = between-sound 1 32 (length arities) w.0 in
      record { some = n.0; few = n.1; range = λ a m. between-sound 1 8 a (every-sound (between 1 8) arities w.1 a m) }

  pub relations-complete : Arities arities → T relations
  relations-complete a =
      and_both (between 1 32 (length arities)) (every (between 1 8) arities) (between-complete 1 32 (length arities) (a.some, a.few)) (every-complete (between 1 8) arities (λ n m. between-complete 1 8 n (a.range n m)))

abbrev rules : Book → Bool
rules b = question b.arities b.question && every (summary b.arities) b.summaries

abbrev bounds : Book → Bool
bounds b = relations b.arities && (ltb b.need 4294967296 && leb (length b.summaries) most_summaries)

value-sound : (b : Book) → T (bounds b && rules b) → SoundValue b
value-sound b h =
    let w = and_parts (bounds b) (rules b) h in
    let a = and_parts (relations b.arities) (ltb b.need 4294967296 && leb (length b.summaries) most_summaries) w.0 in
    let n = and_parts (ltb b.need 4294967296) (leb (length b.summaries) most_summaries) a.1 in
    let r = and_parts (question b.arities b.question) (every (summary b.arities) b.summaries) w.1 in
    record {
      arities = relations-sound b.arities a.0;
      need = ltb→lt b.need 4294967296 n.0;
      question = question-sound b.arities b.question r.0;
      few = leb→le (length b.summaries) most_summaries n.1;
      summaries = λ s m. summary-sound b.arities s (every-sound (summary b.arities) b.summaries r.1 s m);
    }

-- the bytes are the value's layout, and the value is sound
abbrev pub sound_book : List ℕ → Book → Bool
sound_book bytes b = (eq_list eq_number).test (book_bytes b) bytes && (bounds b && rules b)

pub book-sound : (bytes : List ℕ) (b : Book) → T (sound_book bytes b) → SoundBook bytes b
book-sound bytes b h =
    let w = and_parts ((eq_list eq_number).test (book_bytes b) bytes) (bounds b && rules b) h in
    record { value = value-sound b w.1; written = (eq_list eq_number).sound (book_bytes b) bytes w.0 }
