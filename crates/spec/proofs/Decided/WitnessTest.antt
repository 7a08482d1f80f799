-- Whether bytes are a way there, or a way back, as a test.
use mathlib.Core.Bool.{Bool}
use mathlib.Core.List.Memᴰ
use mathlib.Core.List.{List}
use Prim.Native.Nat.{ℕ}
use lib.Dec.{T}
use Rattle.spec.specs.Words.{◌∈◌, Rule}
use Rattle.spec.specs.Summaries.{Summaries}
use Rattle.spec.specs.Answer.{There, Back}
use Rattle.spec.proofs.Lists.Tests.{any, any-sound, any-complete}
use Rattle.spec.proofs.Decided.Equal.{eq_number, eq_list}
use Rattle.spec.proofs.Decided.Witness.{theres, theres-enumerate, backs, backs-enumerate}

-- one of these lists of bytes
abbrev pub is_one : List ℕ → List (List ℕ) → Bool
is_one bytes l = any ((eq_list eq_number).test bytes) l

pub one-sound : (bytes : List ℕ) (l : List (List ℕ)) → T (is_one bytes l) → bytes ∈ l
one-sound bytes l h = let w = any-sound ((eq_list eq_number).test bytes) l h in Memᴰ.cast ((eq_list eq_number).sound bytes w.0 w.2) w.1

pub one-complete : (bytes : List ℕ) (l : List (List ℕ)) → bytes ∈ l → T (is_one bytes l)
one-complete bytes l m = any-complete ((eq_list eq_number).test bytes) l bytes m ((eq_list eq_number).same bytes)

module _ (s : Summaries) (q r : Rule ℕ) (bytes : List ℕ) where
  pub there-sound : T (is_one bytes (theres s q r)) → There s q r bytes
  there-sound h = (theres-enumerate s q r).sound bytes (one-sound bytes (theres s q r) h)

  pub there-complete : There s q r bytes → T (is_one bytes (theres s q r))
  there-complete t = one-complete bytes (theres s q r) ((theres-enumerate s q r).complete bytes t)

  pub back-sound : T (is_one bytes (backs s q r)) → Back s q r bytes
  back-sound h = (backs-enumerate s q r).sound bytes (one-sound bytes (backs s q r) h)

  pub back-complete : Back s q r bytes → T (is_one bytes (backs s q r))
  back-complete t = one-complete bytes (backs s q r) ((backs-enumerate s q r).complete bytes t)
