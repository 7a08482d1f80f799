-- The pass over the rows: its start, a row taken, a row passed over, its end, where the rows taken are the answer.
use mathlib.Core.Path.{◌≡◌, refl, sym, ap, ◌∙◌, subst}
use mathlib.Core.Logic.{◌⊎◌, inl, inr, ⊎_elim}
use mathlib.Core.List.Memᴰ
use mathlib.Core.List.{List, [], ◌∷◌, ◌++◌, append-nil, append_assoc}
use Prim.Native.Nat.{ℕ, ◌+◌, ◌-◌, ◌≤◌, ◌<◌}
use native.Mathlib.Omega.{arith}
use lib.ListN.{length, length-append, length-map}
use Rattle.spec.specs.Words.{◌∈◌, Rule}
use Rattle.spec.specs.Summaries.{Summaries, SummaryRow}
use Rattle.spec.specs.Order.{ListBefore, RowBefore, ShorterFirst}
use Rattle.spec.specs.Answer.{Rewrites, Answer}
use Rattle.spec.proofs.Lists.Strict.{numbers-compare}
use Rattle.spec.proofs.Lists.Rising.{Rising, rising-append, rising-right}
use Rattle.spec.proofs.Lists.Enumerate.{Enumerates}
use Rattle.choice_theory.specs.Numbered.{row_at, rows_at, Numbers, InRowList, WorksOn}
use Rattle.choice_theory.proofs.Rewritten.{rows_at-before, works-rewrites, rewrites-numbers}
use Rattle.choice_theory.specs.Can.{Can}
use Rattle.choice_theory.specs.Going.{AtLeast, BeginsWith, Past, PassState}
use Rattle.spec.proofs.Lists.At.{empty}
use Rattle.spec.proofs.Decided.Rows.{RowList}

-- after the same beginning a lesser number
lesser : (p t y : List ℕ) (n m : ℕ) → n < m → ListBefore ◌<◌ (p ++ (n ∷ t)) (p ++ (m ∷ y))
lesser [] t y n m h = inl h
lesser (a ∷ p) t y n m h = inr (refl, lesser p t y n m h)

module _ (s : Summaries) (q : Rule ℕ) (rows : RowList) where
  -- The start: k rows can do, and fewer cannot.
  pub going_start : (k : ℕ) → AtLeast s q rows k → Can s q rows [] 0 k → PassState s q rows [] 0 k
  going_start k least c = record {
    rising = tt;
    earlier = λ u i. absurd (Memᴰ.not-nil i);
    within = omega arith;
    can = c;
    fewest = λ ns n w. let h = least ns n w in omega arith;
    first = λ ns n w e. inl (ns, refl, λ u i. omega arith);
  }

  module _ {p : List ℕ} {from left : ℕ} (g : PassState s q rows p from left) where
    going-numbers : (t : List ℕ) → Rising ◌<◌ t → ((u : ℕ) → u ∈ t → (from ≤ u) × (u < length rows)) → Numbers (length rows) (p ++ t)
    going-numbers t r h = record {
      rising = rising-append ◌<◌ p t g.rising r (λ a b i j. let x = g.earlier a i in let y = (h b j).0 in omega arith);
      within = λ u i. ⊎_elim (λ j. let x = g.earlier u j in let y = g.within in omega arith) (λ j. (h u j).1) (Memᴰ.append_cases p i);
    }

    pub going-works : WorksOn s q rows (InRowList (p ++ g.can.more)) × Numbers (length rows) (p ++ g.can.more)
    going-works = (g.can.works, going-numbers g.can.more g.can.rising g.can.later)

    -- exactly as many are still to take
    going-full : left ≤ length g.can.more
    going-full = omega (arith, g.fewest (p ++ g.can.more) going-works.1 going-works.0, length-append p g.can.more)

    -- While some are to take there is a row.
    pub going-within : 0 < left → from < length rows
    going-within some = go g.can.more g.can.later going-full
      where
        go : (t : List ℕ) → ((u : ℕ) → u ∈ t → (from ≤ u) × (u < length rows)) → left ≤ length t → from < length rows
        go [] h l = absurd (omega arith)
        go (y ∷ t) h l = let w = h y (Memᴰ.head refl) in omega arith

    -- The row is taken: with it, and fewer by one to take, the later rows can complete.
    pub going-taken : 0 < left → Can s q rows (p ++ (from ∷ [])) (from + 1) (left - 1) → PassState s q rows (p ++ (from ∷ [])) (from + 1) (left - 1)
    going-taken some c = record {
      rising = rising-append ◌<◌ p (from ∷ []) g.rising (λ b i. absurd (Memᴰ.not-nil i), tt) (λ a b i j. let x = g.earlier a i in let y = Memᴰ.eq_of_singleton j in omega arith);
      earlier = λ u i. ⊎_elim (λ j. let x = g.earlier u j in omega arith) (λ j. let y = Memᴰ.eq_of_singleton j in omega arith) (Memᴰ.append_cases p i);
      within = let h = going-within some in omega arith;
      can = c;
      fewest = λ ns n w. let h = g.fewest ns n w in omega (arith, as_long);
      first = λ ns n w e. let f : length ns ≡ length p + left = omega (arith, as_long) in ⊎_elim (next ns n f) (λ h. inr (λ t. rw append_assoc (h (from ∷ t)))) (g.first ns n w f);
    }
      where
        as_long : length (p ++ (from ∷ [])) ≡ length p + 1
        as_long = length-append p (from ∷ [])

        next : (ns : List ℕ) → Numbers (length rows) ns → length ns ≡ length p + left → BeginsWith p from ns → BeginsWith (p ++ (from ∷ [])) (from + 1) ns ⊎ Past (p ++ (from ∷ [])) ns
        next ns n e w = go w.0 w.1 w.2 (rising-right ◌<◌ p w.0 (rw w.1 at n.rising))
          where
            go : (t : List ℕ) → ns ≡ p ++ t → ((u : ℕ) → u ∈ t → from ≤ u) → Rising ◌<◌ t → BeginsWith (p ++ (from ∷ [])) (from + 1) ns ⊎ Past (p ++ (from ∷ [])) ns
            go [] f h r = absurd (omega (arith, ap length f, length-append p []))
            go (y ∷ t) f h r = ⊎_elim (λ l. inr (λ z. rw (append_assoc, f) (lesser p z t from y l))) (⊎_elim same (λ l. absurd (omega (arith, h y (Memᴰ.head refl))))) (numbers-compare from y)
              where
                same : from ≡ y → BeginsWith (p ++ (from ∷ [])) (from + 1) ns ⊎ Past (p ++ (from ∷ [])) ns
                same l = inl (t, f ∙ ap (λ z. p ++ (z ∷ t)) (sym l) ∙ sym (append_assoc p (from ∷ []) t), λ u i. let x = r.0 u i in omega arith)

    -- The row is passed over: with it, and fewer by one to take, the later rows cannot complete.
    pub going-passed : 0 < left → (Can s q rows (p ++ (from ∷ [])) (from + 1) (left - 1) → ⊥) → PassState s q rows p (from + 1) left
    going-passed some cannot = record {
      rising = g.rising;
      earlier = λ u i. let x = g.earlier u i in omega arith;
      within = let h = going-within some in omega arith;
      can = record {
        more = g.can.more;
        rising = g.can.rising;
        later = λ u i. (skips g.can.more g.can.rising g.can.later g.can.few g.can.works u i, (g.can.later u i).1);
        few = g.can.few;
        works = g.can.works;
      };
      fewest = g.fewest;
      first = λ ns n w e. ⊎_elim (λ h. inl (h.0, h.1, on ns n w e h)) inr (g.first ns n w e);
    }
      where
        -- what completes has no use for the row
        skips : (t : List ℕ) → Rising ◌<◌ t → ((u : ℕ) → u ∈ t → (from ≤ u) × (u < length rows)) → length t ≤ left → WorksOn s q rows (InRowList (p ++ t)) → (u : ℕ) → u ∈ t → from + 1 ≤ u
        skips [] r h l w u i = absurd (Memᴰ.not-nil i)
        skips (y ∷ t) r h l w u i = ⊎_elim (λ a. after a u i) (⊎_elim (λ a. absurd (cannot (with a))) (λ a. absurd (omega (arith, (h y (Memᴰ.head refl)).0)))) (numbers-compare from y)
          where
            after : from < y → (u : ℕ) → u ∈ (y ∷ t) → from + 1 ≤ u
            after a u (Memᴰ.head e) = omega arith
            after a u (Memᴰ.tail j) = let x = r.0 u j in omega arith

            with : from ≡ y → Can s q rows (p ++ (from ∷ [])) (from + 1) (left - 1)
            with a = record {
              more = t;
              rising = r.1;
              later = λ v j. (let x = r.0 v j in omega arith, (h v (Memᴰ.tail j)).1);
              few = omega arith;
              works = rw append_assoc (rw (sym a) at w);
            }

        on : (ns : List ℕ) → Numbers (length rows) ns → WorksOn s q rows (InRowList ns) → length ns ≡ length p + left → (h : BeginsWith p from ns) → (u : ℕ) → u ∈ h.0 → from + 1 ≤ u
        on ns n w e h = skips h.0 (rising-right ◌<◌ p h.0 (rw h.1 at n.rising)) (λ u i. (h.2 u i, n.within u (rw h.1 (Memᴰ.append_right p i)))) (omega (arith, ap length h.1, length-append p h.0)) (rw h.1 at w)

  -- The end: none is left to take, and the rows taken are the answer.
  module _ (all : Enumerates (SummaryRow s q) RowBefore rows) {p : List ℕ} {from : ℕ} (g : PassState s q rows p from 0) where
    pub going-answer : Answer s q (rows_at rows p)
    going-answer = record { holds = works-rewrites s q rows all p (rw whole at (going-works g).1) (rw whole at (going-works g).0); least = least }
      where
        whole : p ++ g.can.more ≡ p
        whole = ap (◌++◌ p) (empty g.can.more g.can.few) ∙ append-nil p

        least : (l : RowList) → Rewrites s q l → (rows_at rows p ≡ l) ⊎ ShorterFirst (rows_at rows p) l
        least l r = let w = rewrites-numbers s q rows all l r in subst (λ z. (rows_at rows p ≡ z) ⊎ ShorterFirst (rows_at rows p) z) w.2 (compare w.0 w.1 w.3 (numbers-compare (length p) (length w.0)))
          where
            compare : (ns : List ℕ) → Numbers (length rows) ns → WorksOn s q rows (InRowList ns) → (length p < length ns) ⊎ ((length p ≡ length ns) ⊎ (length ns < length p)) → (rows_at rows p ≡ rows_at rows ns) ⊎ ShorterFirst (rows_at rows p) (rows_at rows ns)
            compare ns n w (inl h) = inr (inl (rw (length-map p (row_at rows), length-map ns (row_at rows)) h))
            compare ns n w (inr (inr h)) = absurd (omega (arith, g.fewest ns n w))
            compare ns n w (inr (inl h)) = ⊎_elim goes past (g.first ns n w (omega arith))
              where
                goes : BeginsWith p from ns → (rows_at rows p ≡ rows_at rows ns) ⊎ ShorterFirst (rows_at rows p) (rows_at rows ns)
                goes f = inl (ap (rows_at rows) (sym (f.1 ∙ ap (◌++◌ p) (empty f.0 (omega (arith, ap length f.1, length-append p f.0))) ∙ append-nil p)))

                past : Past p ns → (rows_at rows p ≡ rows_at rows ns) ⊎ ShorterFirst (rows_at rows p) (rows_at rows ns)
                past f = inr (inr (length-map p (row_at rows) ∙ h ∙ sym (length-map ns (row_at rows)), rows_at-before rows all.rising p ns n.within (rw append-nil at (f []))))
