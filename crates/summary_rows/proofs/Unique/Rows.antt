-- Two lists of just those with a property, in order, are the same; so any two results of the listing are the same.
use mathlib.Core.Path.{◌≡◌, refl, sym, ap, ◌∙◌, subst}
use mathlib.Core.List.Memᴰ
use mathlib.Core.List.{List, [], ◌∷◌, ◌++◌}
use Prim.Native.Nat.{ℕ, ◌+◌, ◌*◌, ◌-◌, ◌<◌, ◌≤◌}
use native.Mathlib.Omega.{arith}
use lib.ListN.{length, take, drop}
use Rattle.std.specs.Prelude.{Option, Some, None, MatchOption}
use Rattle.spec.specs.Words.{Rule}
use Rattle.spec.specs.Table.{most_rows}
use Rattle.spec.proofs.Decided.Orders.{row_order}
use Rattle.spec.proofs.Lists.Strict.{Strict}
use Rattle.spec.proofs.Lists.Enumerate.{Enumerates, enumerates-first}
use Rattle.codes.specs.Code.{term_code, codes_of}
use Rattle.task.specs.Task.{Task}
use Rattle.summary_rows.specs.RowsAfter.{RowBy, RowsAfter, RowsNeeds, RowsSays}
use Rattle.summary_rows.proofs.Residual.{first_of, none_of, rest-enumerates}

pub enumerates-once : {A : Type 0} {Before : A → A → Type 0} (o : Strict Before) (Ok : A → Type 0) (l m : List A) → Enumerates Ok Before l → Enumerates Ok Before m → l ≡ m
enumerates-once o Ok [] m e f = sym (none_of o m f (λ a ok. Memᴰ.not-nil (e.complete a ok)))
enumerates-once {A} {Before} o Ok (a ∷ l) m e f =
    let w = first_of o m f a ((enumerates-first o (a ∷ l) e a).0 refl) in
    ap (λ r. a ∷ r) (enumerates-once o (λ b. Ok b × Before a b) l w.0 (rest-enumerates o [] a l e) (rest-enumerates o [] a w.0 (subst (Enumerates Ok Before) w.1 f))) ∙ sym w.1

count-once : (all : ℕ) (r r' : Option ℕ) → MatchOption r (most_rows < all) (λ c. (c ≡ all) × (c ≤ most_rows)) → MatchOption r' (most_rows < all) (λ c. (c ≡ all) × (c ≤ most_rows)) → r ≡ r'
count-once all (Some c) (Some d) a b = ap Some (a.0 ∙ sym b.0)
count-once all (Some c) None a b = absurd (omega (arith, a.0, a.1))
count-once all None (Some d) a b = absurd (omega (arith, b.0, b.1))
count-once all None None a b = refl

module _ (n : ℕ) (v q : Rule ℕ) (found : ℕ) (before : List ℕ) where
  pub after-once : (after after' : List ℕ) (r r' : Option ℕ) → RowsAfter n v q found before after r → RowsAfter n v q found before after' r' → (r ≡ r') × (after ≡ after')
  after-once after after' r r' a b = (
    count-once (found + length a.rows) r r' a.count (rw same b.count),
    a.codes ∙ ap (λ l. let shown = take (most_rows - found) l in take (9 * found) before ++ (codes_of term_code shown ++ drop (9 * (found + length shown)) before)) same ∙ sym b.codes,
  )
    where
      same : a.rows ≡ b.rows
      same = enumerates-once row_order (RowBy n v q) a.rows b.rows a.all b.all

-- Any two results that meet the promise are the same, and leave the same codes.
pub promised-once : (p : Task) (h n found area : ℕ) (before after after' : List ℕ) (r r' : Option ℕ) → RowsNeeds p h found area → RowsSays p h n found before after r → RowsSays p h n found before after' r' → (r ≡ r') × (after ≡ after')
promised-once p h n found area before after after' r r' w a b =
    after-once n w.rule w.question found before after after' r r' (a.rows w.rule w.question w.terms w.task) (b.rows w.rule w.question w.terms w.task)
