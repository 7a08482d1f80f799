-- Safe as a test, of a rule and of the admitted summaries.
use mathlib.Core.Path.{◌≡◌, refl, ap, subst}
use mathlib.Core.Bool.{Bool, true}
use mathlib.Core.Option.{Option, some, none, none-ne-some}
use mathlib.Core.List.Memᴰ
use Prim.Native.Nat.{ℕ}
use lib.Dec.{T}
use Rattle.spec.specs.Words.{◌∈◌, Term, var, con, Rule, Safe}
use Rattle.spec.specs.Summaries.{place, Summaries, or_none}
use Rattle.spec.proofs.Decided.Sound.{AllSafe}
use Rattle.spec.proofs.Lists.Tests.{every, any, every-sound, every-complete, any-sound, any-complete, decided}
use Rattle.spec.proofs.Decided.Equal.{Eq, eq_number, eq_term}
use Rattle.spec.proofs.Lists.Counted.{place_of, place_in}

module _ {X : Type 0} (e : Eq X) (r : Rule X) where
  abbrev in_body : X → Bool
  in_body x = any (λ g. any ((eq_term e).test (var x)) g.terms) r.body

  abbrev served : Term X → Bool
  served (var x) = in_body x
  served (con c) = true

  abbrev pub safe : Bool
  safe = every served r.head

  pub safe-sound : T safe → Safe r
  safe-sound h x m =
      let g = any-sound (λ g. any ((eq_term e).test (var x)) g.terms) r.body (every-sound served r.head h (var x) m) in
      let t = any-sound ((eq_term e).test (var x)) g.0.terms g.2 in
      (g.0, g.1, Memᴰ.cast ((eq_term e).sound (var x) t.0 t.2) t.1)

  pub safe-complete : Safe r → T safe
  safe-complete h = every-complete served r.head serves
    where
      serves : (t : Term X) → t ∈ r.head → T (served t)
      serves (con c) m = tt
      serves (var x) m =
          let g = h x m in
          any-complete (λ g. any ((eq_term e).test (var x)) g.terms) r.body g.0 g.1 (any-complete ((eq_term e).test (var x)) g.0.terms (var x) g.2 ((eq_term e).same (var x)))

  pub dec_safe : Dec (Safe r)
  dec_safe = decided safe safe-sound safe-complete

abbrev safe_one : Option (Rule ℕ) → Bool
safe_one none = true
safe_one (some r) = safe eq_number r

abbrev pub all_safe : Summaries → Bool
all_safe s = every safe_one s

pub all_safe-sound : (s : Summaries) → T (all_safe s) → AllSafe s
all_safe-sound s h n r e = go (place s n) refl e
  where
    go : (o : Option (Option (Rule ℕ))) → place s n ≡ o → or_none o ≡ some r → Safe r
    go none p q = absurd (none-ne-some r q)
    go (some o) p q = safe-sound eq_number r (subst (λ z. T (safe_one z)) q (every-sound safe_one s h o (place_in s n p)))

pub all_safe-complete : (s : Summaries) → AllSafe s → T (all_safe s)
all_safe-complete s h = every-complete safe_one s one
  where
    one : (o : Option (Rule ℕ)) → o ∈ s → T (safe_one o)
    one none m = tt
    one (some r) m = let w = place_of s m in safe-complete eq_number r (h w.0 r (ap or_none w.1))
