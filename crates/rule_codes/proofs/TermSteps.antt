-- A term of those at a place, and its code.
use mathlib.Core.Path.{◌≡◌, sym, ◌∙◌}
use mathlib.Core.List.{List, map}
use Prim.Native.Nat.{ℕ, ◌+◌, ◌*◌, ◌<◌}
use native.Mathlib.Omega.{arith}
use lib.ListN.{get_or}
use Rattle.spec.specs.Words.{Term}
use Rattle.spec.proofs.Lists.Places.{place-some}
use Rattle.spec.proofs.Lists.At.{mapped}
use Rattle.rule_codes.specs.Codes.{tabled}
use Rattle.rule_codes.specs.Steps.{SomeTerm, SomeTerms, Many, CodeAt, PaddedAt}

module _ (bytes : List ℕ) (at many k : ℕ) where
  pub term-there : SomeTerms bytes at many → k < many → SomeTerm bytes (at + 5 * k)
  term-there s h =
      let l = s.here.long in
      let t = place-some s.terms k (omega arith) in
      record { term = t.0; here = s.here.here.term k t.0 t.1 }

  pub code-there : (table : List ℕ) (w : ℕ) → k < many → CodeAt bytes (at + 5 * k) table w → PaddedAt bytes at many k table w
  code-there table w h e = record { is = is }
    where
      is : (ts : List (Term ℕ)) → Many bytes at many ts → w ≡ get_or (map (tabled table) ts) k 1
      is ts m =
          let l = m.long in
          let t = place-some ts k (omega arith) in
          e.is t.0 (m.here.term k t.0 t.1) ∙ sym (mapped (tabled table) ts k 1 t.0 t.1)
