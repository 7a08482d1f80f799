-- Lists of places, and what stands at them: parts, members, order.
use mathlib.Core.Path.{◌≡◌, refl, sym, ap, ap₂, ◌∙◌, subst}
use mathlib.Core.Logic.{◌⊎◌, inl, inr, ⊎_elim}
use mathlib.Core.Option.{some, none-ne-some, some-injective}
use mathlib.Core.List.Memᴰ
use mathlib.Core.List.{List, [], ◌∷◌, ◌++◌, map}
use Prim.Native.Nat.{ℕ, zero, suc, ◌<◌}
use native.Mathlib.Omega.{arith}
use lib.ListN.{length}
use Rattle.spec.specs.Words.{◌∈◌, Term, Subgoal}
use Rattle.spec.specs.Summaries.{place}
use Rattle.spec.specs.Order.{TermBefore, ListBefore}
use Rattle.spec.specs.Answer.{AtPlaces}
use Rattle.spec.proofs.Lists.Counted.{place_in, from_one}
use Rattle.spec.proofs.Decided.Orders.{bytes_order, term_order}
use Rattle.spec.proofs.Decided.Equal.{eq_number, eq_term}
use Rattle.spec.proofs.Lists.Strict.{Strict, one_way, list_order}
use Rattle.spec.proofs.Lists.Rising.{Rising}
use Rattle.summary_rows.specs.RowTask.{alone}

-- what stands at the places l, counted from 0
abbrev pub Stand : {A : Type 0} → List A → List ℕ → List A → Type 0
Stand all l ms = AtPlaces all (map suc l) ms

module _ {A : Type 0} (all : List A) where
  pub stand-long : (l : List ℕ) (ms : List A) → Stand all l ms → length l ≡ length ms
  stand-long [] [] s = refl
  stand-long [] (m ∷ ms) s = absurd s
  stand-long (k ∷ l) [] s = absurd s
  stand-long (k ∷ l) (m ∷ ms) s = ap suc (stand-long l ms s.1)

  pub stand-same : (l : List ℕ) (ms ns : List A) → Stand all l ms → Stand all l ns → ms ≡ ns
  stand-same [] [] [] s t = refl
  stand-same [] [] (n ∷ ns) s t = absurd t
  stand-same [] (m ∷ ms) ns s t = absurd s
  stand-same (k ∷ l) [] ns s t = absurd s
  stand-same (k ∷ l) (m ∷ ms) [] s t = absurd t
  stand-same (k ∷ l) (m ∷ ms) (n ∷ ns) s t = ap₂ ◌∷◌ (some-injective m n (sym s.0 ∙ t.0)) (stand-same l ms ns s.1 t.1)

  pub stand-split : (l r : List ℕ) (ms ns : List A) → length l ≡ length ms → Stand all (l ++ r) (ms ++ ns) → Stand all l ms × Stand all r ns
  stand-split [] r [] ns e s = (tt, s)
  stand-split [] r (m ∷ ms) ns e s = absurd (omega arith)
  stand-split (k ∷ l) r [] ns e s = absurd (omega arith)
  stand-split (k ∷ l) r (m ∷ ms) ns e s = let w = stand-split l r ms ns (omega arith) s.1 in ((s.0, w.0), w.1)

  pub stand-join : (l r : List ℕ) (ms ns : List A) → Stand all l ms → Stand all r ns → Stand all (l ++ r) (ms ++ ns)
  stand-join [] r [] ns s t = t
  stand-join [] r (m ∷ ms) ns s t = absurd s
  stand-join (k ∷ l) r [] ns s t = absurd s
  stand-join (k ∷ l) r (m ∷ ms) ns s t = (s.0, stand-join l r ms ns s.1 t)

  -- members have places
  pub stand_of : (ms : List A) → ((m : A) → m ∈ ms → m ∈ all) → (l : List ℕ) × Stand all l ms
  stand_of [] h = ([], tt)
  stand_of (m ∷ ms) h =
      let k = from_one all (h m (Memᴰ.head refl)) in
      let l = stand_of ms (λ n i. h n (Memᴰ.tail i)) in
      (k.0 ∷ l.0, (k.1, l.1))

-- Terms alone, and a body behind them.
module _ (body : List (Subgoal (Term ℕ))) where
  pub front-place : (ts : List (Term ℕ)) (k : ℕ) (g : Subgoal (Term ℕ)) → place (map alone ts ++ body) (suc k) ≡ some g → ((t : Term ℕ) × (place ts (suc k) ≡ some t) × (alone t ≡ g)) ⊎ (g ∈ body)
  front-place [] k g e = inr (place_in body (suc k) e)
  front-place (t ∷ ts) zero g e = inl (t, refl, some-injective (alone t) g e)
  front-place (t ∷ ts) (suc k) g e = front-place ts k g e

  pub place-front : (ts : List (Term ℕ)) (k : ℕ) (t : Term ℕ) → place ts (suc k) ≡ some t → place (map alone ts ++ body) (suc k) ≡ some (alone t)
  place-front [] k t e = absurd (none-ne-some t e)
  place-front (u ∷ ts) zero t e = ap some (ap alone (some-injective u t e))
  place-front (u ∷ ts) (suc k) t e = place-front ts k t e

  pub stand-front : (ts : List (Term ℕ)) (l : List ℕ) (us : List (Term ℕ)) → Stand ts l us → Stand (map alone ts ++ body) l (map alone us)
  stand-front ts [] [] s = tt
  stand-front ts [] (u ∷ us) s = absurd s
  stand-front ts (k ∷ l) [] s = absurd s
  stand-front ts (k ∷ l) (u ∷ us) s = (place-front ts k u s.0, stand-front ts l us s.1)

-- In a rising list of terms, places in order hold terms in order.
place-rising : (ts : List (Term ℕ)) → Rising TermBefore ts → (i k : ℕ) (x y : Term ℕ) → place ts (suc i) ≡ some x → place ts (suc k) ≡ some y → i < k → TermBefore x y
place-rising [] r i k x y d e h = absurd (none-ne-some x d)
place-rising (t ∷ ts) r i zero x y d e h = absurd (omega arith)
place-rising (t ∷ ts) r zero (suc k) x y d e h = subst (λ z. TermBefore z y) (some-injective t x d) (r.0 y (place_in ts (suc k) e))
place-rising (t ∷ ts) r (suc i) (suc k) x y d e h = place-rising ts r.1 i k x y d e (omega arith)

pub stand-before : (ts : List (Term ℕ)) → Rising TermBefore ts → (l m : List ℕ) (xs ys : List (Term ℕ)) → Stand ts l xs → Stand ts m ys → ListBefore ◌<◌ l m → ListBefore TermBefore xs ys
stand-before ts r [] [] xs ys s t h = absurd h
stand-before ts r [] (k ∷ m) [] [] s t h = absurd t
stand-before ts r [] (k ∷ m) [] (y ∷ ys) s t h = tt
stand-before ts r [] (k ∷ m) (x ∷ xs) ys s t h = absurd s
stand-before ts r (i ∷ l) [] xs ys s t h = absurd h
stand-before ts r (i ∷ l) (k ∷ m) [] ys s t h = absurd s
stand-before ts r (i ∷ l) (k ∷ m) (x ∷ xs) [] s t h = absurd t
stand-before ts r (i ∷ l) (k ∷ m) (x ∷ xs) (y ∷ ys) s t (inl h) = inl (place-rising ts r i k x y s.0 t.0 h)
stand-before ts r (i ∷ l) (k ∷ m) (x ∷ xs) (y ∷ ys) s t (inr h) = inr (some-injective x y (sym s.0 ∙ ap (λ n. place ts (suc n)) h.0 ∙ t.0), stand-before ts r l m xs ys s.1 t.1 h.1)

-- and terms in order stand at places in order
pub before-stand : (ts : List (Term ℕ)) → Rising TermBefore ts → (l m : List ℕ) (xs ys : List (Term ℕ)) → Stand ts l xs → Stand ts m ys → ListBefore TermBefore xs ys → ListBefore ◌<◌ l m
before-stand ts r l m xs ys s t h = ⊎_elim (λ a. a)
    (⊎_elim (λ e. absurd (order.never xs (subst (ListBefore TermBefore xs) (sym (stand-same ts l xs ys s (subst (λ n. Stand ts n ys) (sym e) t))) h)))
    (λ b. absurd (one_way order xs ys h (stand-before ts r m l ys xs t s b))))
    (bytes_order.compare l m)
  where
    order : Strict (ListBefore TermBefore)
    order = list_order (eq_term eq_number) term_order
