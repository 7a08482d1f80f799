-- Reading and writing are two ways of one thing: for numbers, terms, and so many of a kind.
use mathlib.Core.Path.{◌≡◌, refl, sym, ap, ap₂, ◌∙◌, subst}
use mathlib.Core.Bool.{Bool, true, false, cond}
use mathlib.Core.List.Memᴰ
use mathlib.Core.List.{List, [], ◌∷◌, ◌++◌, map, append_assoc}
use Prim.Native.Nat.{ℕ, zero, suc, ◌+◌, ◌*◌, ◌/◌, ◌%◌, ◌^◌, ◌<◌}
use native.Mathlib.Omega.{arith}
use native.Mathlib.Nat.{pow-succ'}
use lib.ListN.{length}
use lib.Dec.{ltb, eqb}
use borrow.Author.Tests.{ltb-true, lt-ltb, eqb-true}
use Rattle.spec.specs.Words.{◌∈◌, Term, var, con}
use Rattle.spec.specs.Summaries.{joined}
use Rattle.spec.specs.Numbers.{little, Bytes}
use Rattle.spec.specs.RuleLayout.{term_bytes, TermWithin}
use Rattle.spec.proofs.Bytes.RuleReading.{Fault, Read, got, bad, bad_tag, bad_variable, and_then, read_number, as_variable, as_constant, read_term, read_many}

-- a list of bytes, taken apart
pub other-bytes : (b : ℕ) (bs : List ℕ) → Bytes (b ∷ bs) → Bytes bs
other-bytes b bs h i = h (suc i)

pub bytes_after : (l bs : List ℕ) → Bytes (l ++ bs) → Bytes bs
bytes_after [] bs h = h
bytes_after (b ∷ l) bs h = bytes_after l bs (other-bytes b (l ++ bs) h)

-- What reads one thing and what writes it, where the thing is within its bounds.
pub record TwoWays {A : Type 0} (read : List ℕ → Read A) (write : A → List ℕ) (Within : A → Type 0) : Type 0 where
  pub forth : (a : A) (rest : List ℕ) → Within a → read (write a ++ rest) ≡ got a rest
  pub back : (bs : List ℕ) (a : A) (rest : List ℕ) → Bytes bs → read bs ≡ got a rest → Within a × (write a ++ rest ≡ bs)

-- `and_then` taken apart
pub record Then {A B : Type 0} (r : Read A) (next : A → List ℕ → Read B) (b : B) (end : List ℕ) : Type 0 where
  pub thing : A
  pub rest : List ℕ
  pub fst : r ≡ got thing rest
  pub snd : next thing rest ≡ got b end

pub not-bad : {A B : Type 0} {f : Fault} {a : A} {rest : List ℕ} → bad f ≡ got a rest → B
not-bad e = absurd (let z : ◌≡◌ {A = ℕ} 0 1 = cc in omega arith)

pub then : {A B : Type 0} (r : Read A) (next : A → List ℕ → Read B) (b : B) (end : List ℕ) → and_then r next ≡ got b end → Then r next b end
then (got a rest) next b end e = record { thing = a; rest = rest; fst = refl; snd = e }
then (bad f) next b end e = not-bad e

-- a test before going on
pub tested : {A : Type 0} (t : Bool) (r : Read A) (f : Fault) (a : A) (rest : List ℕ) → cond t r (bad f) ≡ got a rest → (t ≡ true) × (r ≡ got a rest)
tested true r f a rest e = (refl, e)
tested false r f a rest e = not-bad e

-- numbers
number-forth : (many n : ℕ) (rest : List ℕ) → n < 256 ^ many → read_number many (little many n ++ rest) ≡ got n rest
number-forth zero n rest h = ap (λ m. got m rest) (omega arith)
number-forth (suc many) n rest h =
    let p = pow-succ' 256 many in
    let l : n / 256 < 256 ^ many = omega arith in
    rw (number-forth many (n / 256) rest l) (ap (λ m. got m rest) (omega arith))

number-back : (many : ℕ) (bs : List ℕ) (n : ℕ) (rest : List ℕ) → Bytes bs → read_number many bs ≡ got n rest → (n < 256 ^ many) × (little many n ++ rest ≡ bs)
number-back zero bs n rest h e = let z : 0 ≡ n = cc in let l : bs ≡ rest = cc in (omega arith, sym l)
number-back (suc many) [] n rest h e = not-bad e
number-back (suc many) (b ∷ bs) n rest h e = go (then (read_number many bs) _ n rest e) (λ m r q. number-back many bs m r (other-bytes b bs h) q)
  where
    go : Then (read_number many bs) (λ m r. got (b + 256 * m) r) n rest
        → ((m : ℕ) (r : List ℕ) → read_number many bs ≡ got m r → (m < 256 ^ many) × (little many m ++ r ≡ bs))
        → (n < 256 ^ suc many) × (little (suc many) n ++ rest ≡ b ∷ bs)
    go t ih =
        let w = ih t.thing t.rest t.fst in
        let en : b + 256 * t.thing ≡ n = cc t.snd in
        let er : t.rest ≡ rest = cc t.snd in
        let p = pow-succ' 256 many in
        let lb : b < 256 = h 0 in
        let d : n / 256 ≡ t.thing = omega arith in
        let m : n % 256 ≡ b = omega arith in
        (omega (arith, w.0), ap₂ ◌∷◌ m (ap (λ k. little many k ++ rest) d ∙ ap (λ r. little many t.thing ++ r) (sym er) ∙ w.1))

pub number-two-ways : (many : ℕ) → TwoWays (read_number many) (little many) (λ n. n < 256 ^ many)
number-two-ways many = record { forth = λ n rest h. number-forth many n rest h; back = λ bs n rest h e. number-back many bs n rest h e }

-- terms
abbrev four : TwoWays (read_number 4) (little 4) (λ n. n < 256 ^ 4)
four = number-two-ways 4

term-forth : (t : Term ℕ) (rest : List ℕ) → TermWithin t → read_term (term_bytes t ++ rest) ≡ got t rest
term-forth (var v) rest h = ap (λ r. and_then r as_variable) (four.forth v rest (omega arith)) ∙ ap (λ b. cond b (got (var v) rest) (bad bad_variable)) (lt-ltb v 32 h)
term-forth (con c) rest h = ap (λ r. and_then r as_constant) (four.forth c rest h)

term-back : (bs : List ℕ) (t : Term ℕ) (rest : List ℕ) → Bytes bs → read_term bs ≡ got t rest → TermWithin t × (term_bytes t ++ rest ≡ bs)
term-back [] t rest h e = not-bad e
term-back (tag ∷ bs) t rest h e = zero-case (eqb tag 0) refl e
  where
    by_variable : tag ≡ 0 → Then (read_number 4 bs) as_variable t rest → TermWithin t × (term_bytes t ++ rest ≡ tag ∷ bs)
    by_variable z w =
        let n = four.back bs w.thing w.rest (other-bytes tag bs h) w.fst in
        let c = tested (ltb w.thing 32) (got (var w.thing) w.rest) bad_variable t rest w.snd in
        let et : var w.thing ≡ t = cc c.1 in
        let er : w.rest ≡ rest = cc c.1 in
        rw (sym et, sym er) (ltb-true _ _ c.0, ap₂ ◌∷◌ (sym z) n.1)

    by_constant : tag ≡ 1 → Then (read_number 4 bs) as_constant t rest → TermWithin t × (term_bytes t ++ rest ≡ tag ∷ bs)
    by_constant z w =
        let n = four.back bs w.thing w.rest (other-bytes tag bs h) w.fst in
        let et : con w.thing ≡ t = cc w.snd in
        let er : w.rest ≡ rest = cc w.snd in
        rw (sym et, sym er) (n.0, ap₂ ◌∷◌ (sym z) n.1)

    one-case : (b : Bool) → eqb tag 1 ≡ b → cond b (and_then (read_number 4 bs) as_constant) (bad bad_tag) ≡ got t rest → TermWithin t × (term_bytes t ++ rest ≡ tag ∷ bs)
    one-case true q e = by_constant (eqb-true tag 1 q) (then (read_number 4 bs) as_constant t rest e)
    one-case false q e = not-bad e

    zero-case : (b : Bool) → eqb tag 0 ≡ b → cond b (and_then (read_number 4 bs) as_variable) (cond (eqb tag 1) (and_then (read_number 4 bs) as_constant) (bad bad_tag)) ≡ got t rest
        → TermWithin t × (term_bytes t ++ rest ≡ tag ∷ bs)
    zero-case true q e = by_variable (eqb-true tag 0 q) (then (read_number 4 bs) as_variable t rest e)
    zero-case false q e = one-case (eqb tag 1) refl e

pub term-two-ways : TwoWays read_term term_bytes TermWithin
term-two-ways = record { forth = term-forth; back = term-back }

-- so many of a kind
module _ {A : Type 0} (read : List ℕ → Read A) (write : A → List ℕ) (Within : A → Type 0) (two : TwoWays read write Within) where
  abbrev pub AllWithin : ℕ → List A → Type 0
  AllWithin k l = (length l ≡ k) × ((a : A) → a ∈ l → Within a)

  many-forth : (k : ℕ) (l : List A) (rest : List ℕ) → AllWithin k l → read_many read k (joined (map write l) ++ rest) ≡ got l rest
  many-forth zero [] rest h = refl
  many-forth zero (a ∷ l) rest h = absurd (omega (arith, h.0))
  many-forth (suc k) [] rest h = absurd (omega (arith, h.0))
  many-forth (suc k) (a ∷ l) rest h =
      rw (append_assoc (write a) (joined (map write l)) rest, two.forth a (joined (map write l) ++ rest) (h.1 a (Memᴰ.head refl)), many-forth k l rest (omega (arith, h.0), λ b m. h.1 b (Memᴰ.tail m)))

  abbrev More : ℕ → A → List ℕ → Read (List A)
  More k a rest = and_then (read_many read k rest) (λ l end. got (a ∷ l) end)

  many-back : (k : ℕ) (bs : List ℕ) (l : List A) (rest : List ℕ) → Bytes bs → read_many read k bs ≡ got l rest → AllWithin k l × (joined (map write l) ++ rest ≡ bs)
  many-back zero bs l rest h e =
      let z : [] ≡ l = cc in let q : bs ≡ rest = cc in
      rw (sym z, sym q) ((refl, λ a m. absurd (Memᴰ.not-nil m)), refl)
  many-back (suc k) bs l rest h e = go (then (read bs) (More k) l rest e) (λ b r m q. many-back k b m r q)
    where
      go : Then (read bs) (More k) l rest
          → ((b r : List ℕ) (m : List A) → Bytes b → read_many read k b ≡ got m r → AllWithin k m × (joined (map write m) ++ r ≡ b))
          → AllWithin (suc k) l × (joined (map write l) ++ rest ≡ bs)
      go t ih = ending (then (read_many read k t.rest) (λ m end. got (t.thing ∷ m) end) l rest t.snd)
        where
          one : Within t.thing × (write t.thing ++ t.rest ≡ bs)
          one = two.back bs t.thing t.rest h t.fst

          ending : Then (read_many read k t.rest) (λ m end. got (t.thing ∷ m) end) l rest → AllWithin (suc k) l × (joined (map write l) ++ rest ≡ bs)
          ending u =
              let left : Bytes t.rest = bytes_after (write t.thing) t.rest (subst Bytes (sym one.1) h) in
              let w = ih t.rest u.rest u.thing left u.fst in
              let el : t.thing ∷ u.thing ≡ l = cc u.snd in
              let er : u.rest ≡ rest = cc u.snd in
              rw (sym el, sym er)
              ((ap suc w.0.0, all w.0.1), append_assoc (write t.thing) (joined (map write u.thing)) u.rest ∙ ap (λ r. write t.thing ++ r) w.1 ∙ one.1)
            where
              all : ((a : A) → a ∈ u.thing → Within a) → (a : A) → a ∈ (t.thing ∷ u.thing) → Within a
              all f a (Memᴰ.head q) = subst Within (sym q) one.0
              all f a (Memᴰ.tail m) = f a m

  pub many-two-ways : (k : ℕ) → TwoWays (read_many read k) (λ l. joined (map write l)) (AllWithin k)
  many-two-ways k = record { forth = many-forth k; back = many-back k }
