-- Any two results that meet a promise are the same.
use mathlib.Core.Path.{◌≡◌, sym, ◌∙◌}
use mathlib.Core.List.{List}
use Prim.Native.Nat.{ℕ}
use native.Mathlib.Decide.{ℕ_discrete}
use lib.ListN.{length, get_or}
use lib.Seq.{ext_get_or}
use Rattle.search_meaning.specs.HeadBound.{HeadBound}
use Rattle.book_codes.specs.Question.{SomeSound, QuestionSource, QuestionTarget, QuestionBound}

module _ {book : List ℕ} (w : SomeSound book) where
  pub source-once : {before after other old new more : List ℕ} {n m : ℕ} → QuestionSource book before after old new n → QuestionSource book before other old more m → (n ≡ m) × (after ≡ other) × (new ≡ more)
  source-once a b = (
    a.count w.value w.sound ∙ sym (b.count w.value w.sound),
    a.codes w.value w.sound ∙ sym (b.codes w.value w.sound),
    a.widths w.value w.sound ∙ sym (b.widths w.value w.sound),
  )

  pub target_once : {before after other : List ℕ} {n m : ℕ} → QuestionTarget book before after n → QuestionTarget book before other m → (n ≡ m) × (after ≡ other)
  target_once a b = (a.count w.value w.sound ∙ sym (b.count w.value w.sound), a.codes w.value w.sound ∙ sym (b.codes w.value w.sound))

  -- bindings are 64 codes
  pub bindings-once : (a b : List ℕ) → length a ≡ 64 → length b ≡ 64 → QuestionBound book a → QuestionBound book b → a ≡ b
  bindings-once a b n m t u = ext_get_or 0 a b (n ∙ sym m) (λ x h. go x (ℕ_discrete (get_or a x 0) 0) (ℕ_discrete (get_or b x 0) 0))
    where
      left : HeadBound w.value.question.head a
      left = t.is w.value w.sound

      right : HeadBound w.value.question.head b
      right = u.is w.value w.sound

      go : (x : ℕ) → Dec (get_or a x 0 ≡ 0) → Dec (get_or b x 0 ≡ 0) → get_or a x 0 ≡ get_or b x 0
      go x (yes e) (yes f) = e ∙ sym f
      go x (no e) d = let i = left.only x e in left.bound x i ∙ sym (right.bound x i)
      go x (yes e) (no f) = let i = right.only x f in left.bound x i ∙ sym (right.bound x i)
