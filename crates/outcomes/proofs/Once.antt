-- A book is given one answer, or refused with one number at one place, never both.
use mathlib.Core.Path.{◌≡◌, refl, subst}
use mathlib.Core.List.{List}
use Prim.Native.Nat.{ℕ}
use Rattle.spec.specs.Book.{Book, admitted_of}
use Rattle.spec.specs.Result.{Right}
use Rattle.spec.specs.BookLayout.{SoundBook}
use Rattle.spec.specs.declared.Reason.{Reason}
use Rattle.spec.specs.Table.{Fault9, Fault10, RewriterRefusal, one, read, nine, ten}
use Rattle.spec.specs.Given.{Given}
use Rattle.spec.proofs.Decided.Answered.{right_unique}
use Rattle.spec.proofs.Bytes.BookUnique.{book-unique}
use Rattle.spec.proofs.Bytes.RefusedOnce.{refused-once}
use Rattle.spec.proofs.Bytes.Refused.{sound-unrefused}

module _ (book : List ℕ) (answer witness : ℕ) where
  pub given-value : (g h : Given book answer witness) → g.value ≡ h.value
  given-value g h = book-unique g.sound h.sound

  pub given-result : (g h : Given book answer witness) → g.result ≡ h.result
  given-result g h = right_unique (admitted_of h.value) h.value.question g.result h.result (subst (λ b. Right (admitted_of b) b.question g.result) (given-value g h) g.right) h.right

  same-value : (b c : Book) → SoundBook book b → SoundBook book c → b ≡ c
  same-value b c s t = book-unique s t

  pub given-unrefused : {r : Reason} → Given book answer witness → RewriterRefusal book answer witness r → ⊥
  given-unrefused g (one f) = g.room f
  given-unrefused g (read f r) = sound-unrefused g.sound r
  given-unrefused g (nine f b s n) = g.few (subst (λ c. Fault9 (admitted_of c) c.question) (same-value b g.value s g.sound) n)
  given-unrefused g (ten f b s n t) = subst (λ c. Fault10 (admitted_of c) c.question) (same-value b g.value s g.sound) t g.result.rows g.right.answers.holds

  pub refused-same : {r s : Reason} → RewriterRefusal book answer witness r → RewriterRefusal book answer witness s → r ≡ s
  refused-same (one f) (one g) = refl
  refused-same (one f) (read g r) = absurd (g f)
  refused-same (one f) (nine g b s n) = absurd (g f)
  refused-same (one f) (ten g b s n t) = absurd (g f)
  refused-same (read g r) (one f) = absurd (g f)
  refused-same (read g r) (read h t) = refused-once book r t
  refused-same (read g r) (nine h b s n) = absurd (sound-unrefused s r)
  refused-same (read g r) (ten h b s n t) = absurd (sound-unrefused s r)
  refused-same (nine g b s n) (one f) = absurd (g f)
  refused-same (nine g b s n) (read h r) = absurd (sound-unrefused s r)
  refused-same (nine g b s n) (nine h c t m) = refl
  refused-same (nine g b s n) (ten h c t m u) = absurd (m (subst (λ c. Fault9 (admitted_of c) c.question) (same-value b c s t) n))
  refused-same (ten g b s n t) (one f) = absurd (g f)
  refused-same (ten g b s n t) (read h r) = absurd (sound-unrefused s r)
  refused-same (ten g b s n t) (nine h c u m) = absurd (n (subst (λ c. Fault9 (admitted_of c) c.question) (same-value c b u s) m))
  refused-same (ten g b s n t) (ten h c u m v) = refl
