-- What stands for a variable in a use: of all that may stand for one, each has the property.
use mathlib.Core.Path.{refl}
use mathlib.Core.Bool.{Bool, true, false, cond}
use mathlib.Core.List.Memᴰ
use mathlib.Core.List.{List, [], ◌∷◌}
use Prim.Native.Nat.{ℕ}
use lib.Dec.{eqb}
use Rattle.spec.specs.Words.{◌∈◌, Term, var, con}
use Rattle.spec.specs.Summaries.{replaced}

-- what holds of all that may stand for a variable holds of what stands for it
pub replaced-all : {A : Type 0} (P : A → Type 0) (ss : List (Term ℕ)) (ts : List A) (other : ℕ → A) (x : ℕ) → ((t : A) → t ∈ ts → P t) → P (other x) → P (replaced ss ts other x)
replaced-all P [] ts other x all p = p
replaced-all P (s ∷ ss) [] other x all p = p
replaced-all {A} P (var y ∷ ss) (t ∷ ts) other x all p = go (eqb y x) (replaced-all P ss ts other x (λ a m. all a (Memᴰ.tail m)) p)
  where
    go : (b : Bool) → P (replaced ss ts other x) → P (cond b t (replaced ss ts other x))
    go true r = all t (Memᴰ.head refl)
    go false r = r
replaced-all P (con c ∷ ss) (t ∷ ts) other x all p = replaced-all P ss ts other x (λ a m. all a (Memᴰ.tail m)) p
