-- Two refusals that are told alike are the same, and each row of the refusal tables has its variant.
use mathlib.Core.Path.{◌≡◌, refl, sym, ap, ◌∙◌}
use mathlib.Core.List.{List, [], ◌∷◌}
use Prim.Native.Nat.{ℕ}
use lib.ListN.{get_or}
use Rattle.spec.specs.Refusals.{Refusal, two, three, four, five, six, seven, eight}
use Rattle.spec.specs.Table.{RewriterRefusal, nine, ten}
use Rattle.spec.specs.Table as rewriter
use Rattle.spec.specs.TableLoading.{TableRefusal}
use Rattle.spec.specs.TableLoading as loader
use Rattle.spec.specs.Told.{told_of}
use Rattle.spec.specs.declared.Reason.{Reason}
use Rattle.spec.specs.declared.Refused.{Refused}
use Rattle.spec.specs.declared.Refused.TheVariants.{Room, Size, Count, Contents, Relations, Layout, Unsafe, Repeats, Rows, NoRewriting}

-- the refusal of a number at a place
abbrev refused_of : ℕ → ℕ → Refused
refused_of n i = get_or (NoRewriting ∷ Room ∷ Size ∷ Count ∷ Contents ∷ Relations ∷ Layout i ∷ Unsafe i ∷ Repeats i ∷ Rows ∷ []) n NoRewriting

told-back : (e : Refused) → refused_of (told_of e).number (told_of e).place ≡ e
told-back Room = refl
told-back Size = refl
told-back Count = refl
told-back Contents = refl
told-back Relations = refl
told-back (Layout i) = refl
told-back (Unsafe i) = refl
told-back (Repeats i) = refl
told-back Rows = refl
told-back NoRewriting = refl

pub told-once : (e f : Refused) → told_of e ≡ told_of f → e ≡ f
told-once e f same = sym (told-back e) ∙ ap (λ (r : Reason). refused_of r.number r.place) same ∙ told-back f

pub refusal-told : {book : List ℕ} {r : Reason} → Refusal book r → (e : Refused) × (told_of e ≡ r)
refusal-told (two _) = (Size, refl)
refusal-told (three _ _) = (Count, refl)
refusal-told (four _ _ _) = (Contents, refl)
refusal-told (five _ _ _ _) = (Relations, refl)
refusal-told (six {i} _ _) = (Layout i, refl)
refusal-told (seven {i} _ _) = (Unsafe i, refl)
refusal-told (eight {i} _ _ _) = (Repeats i, refl)

pub rewriter-told : {book : List ℕ} {answer witness : ℕ} {r : Reason} → RewriterRefusal book answer witness r → (e : Refused) × (told_of e ≡ r)
rewriter-told (rewriter.one _) = (Room, refl)
rewriter-told (rewriter.read _ f) = refusal-told f
rewriter-told (nine _ _ _ _) = (Rows, refl)
rewriter-told (ten _ _ _ _ _) = (NoRewriting, refl)

pub loader-told : {book : List ℕ} {room : ℕ} {r : Reason} → TableRefusal book room r → (e : Refused) × (told_of e ≡ r)
loader-told (loader.one _) = (Room, refl)
loader-told (loader.then _ f _) = refusal-told f
