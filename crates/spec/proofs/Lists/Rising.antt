-- Rising lists: each element before all that follow. Ascending is rising by the order of rows.
use mathlib.Core.Path.{refl, sym, subst}
use mathlib.Core.Logic.{⊎_elim}
use mathlib.Core.Bool.{Bool, true, false, cond}
use mathlib.Core.List.Memᴰ
use mathlib.Core.List.{List, [], ◌∷◌, ◌++◌, map}
use Prim.Native.Nat.{ℕ}
use Rattle.spec.specs.Words.{◌∈◌, Term, Subgoal}
use Rattle.spec.specs.Order.{RowBefore, Ascending}
use Rattle.spec.proofs.Lists.Gathered.{gather, gather-out, passing, passing-out}
use Rattle.spec.proofs.Decided.Orders.{row_order}

abbrev pub Rising : {A : Type 0} → (A → A → Type 0) → List A → Type 0
Rising before [] = Unit {0}
Rising {A} before (a ∷ l) = ((b : A) → b ∈ l → before a b) × Rising before l

pub rising-append : {A : Type 0} (before : A → A → Type 0) (l m : List A) → Rising before l → Rising before m → ((a b : A) → a ∈ l → b ∈ m → before a b) → Rising before (l ++ m)
rising-append before [] m p q h = q
rising-append before (a ∷ l) m p q h =
    (λ b i. ⊎_elim (p.0 b) (h a b (Memᴰ.head refl)) (Memᴰ.append_cases l i), rising-append before l m p.1 q (λ c b i. h c b (Memᴰ.tail i)))

-- what rising parts make, one for each element of a rising list
pub rising-gather : {A B : Type 0} (before : A → A → Type 0) (under : B → B → Type 0) (f : A → List B) (l : List A) → Rising before l
    → ((a : A) → a ∈ l → Rising under (f a)) → ((a b : A) → a ∈ l → b ∈ l → before a b → (x y : B) → x ∈ f a → y ∈ f b → under x y) → Rising under (gather f l)
rising-gather before under f [] p part across = tt
rising-gather before under f (a ∷ l) p part across =
    rising-append under (f a) (gather f l) (part a (Memᴰ.head refl))
    (rising-gather before under f l p.1 (λ b i. part b (Memᴰ.tail i)) (λ b c i j. across b c (Memᴰ.tail i) (Memᴰ.tail j)))
    (λ x y i j. let w = gather-out f l j in across a w.0 (Memᴰ.head refl) (Memᴰ.tail w.1) (p.0 w.0 w.1) x y i w.2)

-- by another order that the members keep
pub rising-by : {A : Type 0} (before under : A → A → Type 0) (l : List A) → Rising before l → ((a b : A) → a ∈ l → b ∈ l → before a b → under a b) → Rising under l
rising-by before under [] p h = tt
rising-by before under (a ∷ l) p h = (λ b i. h a b (Memᴰ.head refl) (Memᴰ.tail i) (p.0 b i), rising-by before under l p.1 (λ b c i j. h b c (Memᴰ.tail i) (Memᴰ.tail j)))

pub rising-map : {A B : Type 0} (before : A → A → Type 0) (under : B → B → Type 0) (f : A → B) (l : List A) → Rising before l
    → ((a b : A) → a ∈ l → b ∈ l → before a b → under (f a) (f b)) → Rising under (map f l)
rising-map before under f [] p h = tt
rising-map before under f (a ∷ l) p h =
    (λ y j. let w = Memᴰ.of_map f l j in subst (under (f a)) w.2 (h a w.0 (Memᴰ.head refl) (Memᴰ.tail w.1) (p.0 w.0 w.1)), rising-map before under f l p.1 (λ b c i j. h b c (Memᴰ.tail i) (Memᴰ.tail j)))

pub rising-passing : {A : Type 0} (before : A → A → Type 0) (p : A → Bool) (l : List A) → Rising before l → Rising before (passing p l)
rising-passing before p [] r = tt
rising-passing {A} before p (a ∷ l) r = go (rising-passing before p l r.1) (p a)
  where
    go : Rising before (passing p l) → (t : Bool) → Rising before (cond t (a ∷ passing p l) (passing p l))
    go rest true = (λ b i. r.0 b (passing-out p l i).0, rest)
    go rest false = rest

-- Ascending says it of neighbours.
pub rising-ascending : (l : List (Subgoal (Term ℕ))) → Rising RowBefore l → Ascending l
rising-ascending [] p = tt
rising-ascending (g ∷ []) p = tt
rising-ascending (g ∷ h ∷ l) p = (p.0 h (Memᴰ.head refl), rising-ascending (h ∷ l) p.1)

pub ascending-rising : (l : List (Subgoal (Term ℕ))) → Ascending l → Rising RowBefore l
ascending-rising [] p = tt
ascending-rising (g ∷ []) p = (λ h i. absurd (Memᴰ.not-nil i), tt)
ascending-rising (g ∷ h ∷ l) p = go (ascending-rising (h ∷ l) p.1)
  where
    go : Rising RowBefore (h ∷ l) → Rising RowBefore (g ∷ h ∷ l)
    go rest = (after, rest)
      where
        after : (k : Subgoal (Term ℕ)) → k ∈ (h ∷ l) → RowBefore g k
        after k (Memᴰ.head e) = subst (RowBefore g) (sym e) p.0
        after k (Memᴰ.tail i) = row_order.trans g h k p.0 (rest.0 k i)

pub rising-right : {A : Type 0} (before : A → A → Type 0) (l m : List A) → Rising before (l ++ m) → Rising before m
rising-right before [] m r = r
rising-right before (a ∷ l) m r = rising-right before l m r.1

-- what stands before something in a rising list is before it
pub rising-across : {A : Type 0} (Before : A → A → Type 0) (done rest : List A) → Rising Before (done ++ rest) → (a b : A) → a ∈ done → b ∈ rest → Before a b
rising-across Before [] rest r a b i j = absurd (Memᴰ.not-nil i)
rising-across Before (c ∷ done) rest r a b (Memᴰ.head e) j = subst (λ z. Before z b) (sym e) (r.0 b (Memᴰ.append_right done j))
rising-across Before (c ∷ done) rest r a b (Memᴰ.tail i) j = rising-across Before done rest r.1 a b i j
