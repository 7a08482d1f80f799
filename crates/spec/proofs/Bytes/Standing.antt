-- A term that stands at a place of bytes, and terms that stand one after the other.
use mathlib.Core.Path.{◌≡◌}
use mathlib.Core.Option.{some}
use mathlib.Core.List.{List}
use Prim.Native.Nat.{ℕ, suc, ◌+◌, ◌*◌, ◌≤◌}
use lib.ListN.{length, get_or, take, drop}
use Rattle.spec.specs.Words.{Term, var, con}
use Rattle.spec.specs.Summaries.{place}
use Rattle.spec.specs.Numbers.{number_at}
use Rattle.spec.specs.RuleLayout.{term_bytes, TermWithin}

-- "A term: one byte 0 (variable) or 1 (constant), then four bytes."
abbrev pub tag_of : Term ℕ → ℕ
tag_of (var x) = 0
tag_of (con c) = 1

abbrev pub number_of : Term ℕ → ℕ
number_of (var x) = x
number_of (con c) = c

-- The term stands there, and is within its bounds.
pub record TermAt (bytes : List ℕ) (at : ℕ) (t : Term ℕ) : Type 0 where
  pub within : TermWithin t
  pub room : at + 5 ≤ length bytes
  pub five : take 5 (drop at bytes) ≡ term_bytes t
  pub tag : get_or bytes at 0 ≡ tag_of t
  pub number : number_at 4 bytes (at + 1) ≡ number_of t

-- The terms stand there one after the other.
pub record TermsAt (bytes : List ℕ) (at : ℕ) (ts : List (Term ℕ)) : Type 0 where
  pub term : (i : ℕ) (t : Term ℕ) → place ts (suc i) ≡ some t → TermAt bytes (at + 5 * i) t
