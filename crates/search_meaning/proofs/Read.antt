-- A code read back is the term whose code it is, and no code is 0.
use mathlib.Core.Path.{◌≡◌, ap, ap₂}
use Prim.Native.Nat.{ℕ, ◌+◌, ◌*◌}
use native.Mathlib.Omega.{arith}
use borrow.Author.Tests.{lt-ltb, le-ltb}
use Rattle.spec.specs.Words.{Term, var, con}
use Rattle.spec.specs.Summaries.{Own, old, fresh}
use Rattle.spec.specs.RuleLayout.{TermWithin}
use Rattle.codes.specs.Code.{variable_tag, constant_tag, fresh_tag, term_code, own_code}
use Rattle.search_meaning.specs.Codings.{read_term, read_own, OwnWithin}

pub read-term : (t : Term ℕ) → TermWithin t → read_term (term_code t) ≡ t
read-term (var x) h = rw (lt-ltb (variable_tag + x) constant_tag (omega arith)) (ap var (omega arith))
read-term (con k) h = rw (le-ltb (constant_tag + k) constant_tag (omega arith)) (ap con (omega arith))

pub read-own : (t : Term (Own ℕ)) → OwnWithin t → read_own (own_code t) ≡ t
read-own (var (old x)) h = rw (lt-ltb (variable_tag + x) constant_tag (omega arith)) (ap (λ y. var (old y)) (omega arith))
read-own (var (fresh u x)) h = rw (le-ltb (fresh_tag + (32 * u + x)) constant_tag (omega arith), le-ltb (fresh_tag + (32 * u + x)) fresh_tag (omega arith)) (ap₂ (λ v y. var (fresh v y)) (omega arith) (omega arith))
read-own (con k) h = rw (le-ltb (constant_tag + k) constant_tag (omega arith), lt-ltb (constant_tag + k) fresh_tag (omega arith)) (ap con (omega arith))

pub term-solid : (t : Term ℕ) → term_code t ≡ 0 → ⊥
term-solid (var x) e = omega arith
term-solid (con k) e = omega arith

pub own-solid : (t : Term (Own ℕ)) → own_code t ≡ 0 → ⊥
own-solid (var (old x)) e = omega arith
own-solid (var (fresh u x)) e = omega arith
own-solid (con k) e = omega arith
