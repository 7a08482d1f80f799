-- What a reading leaves is the end of what it was given.
use mathlib.Core.Path.{◌≡◌, sym, ap, ◌∙◌}
use mathlib.Core.Bool.{Bool, true, false, cond}
use mathlib.Core.List.{List, [], ◌∷◌, ◌++◌, append_assoc}
use Prim.Native.Nat.{ℕ, zero, suc, ◌+◌, ◌*◌, ◌-◌, ◌≤◌}
use native.Mathlib.Omega.{arith}
use lib.ListN.{length, get_or, drop, length-append, length-drop}
use lib.Seq.{drop-append_seam, drop-drop}
use lib.Dec.{eqb, ltb}
use Rattle.spec.specs.Words.{var}
use Rattle.spec.proofs.Bytes.RuleReading.{Read, got, bad, bad_tag, bad_variable, bad_relation, and_then, read_number, as_variable, as_constant, read_term, read_many, as_subgoal, read_subgoal}
use Rattle.spec.proofs.Bytes.TwoWays.{Then, then, tested, not-bad}

pub record EndOf (rest bs : List ℕ) : Type 0 where
  pub front : List ℕ
  pub split : front ++ rest ≡ bs

abbrev pub Tails : {A : Type 0} → (List ℕ → Read A) → Type 0
Tails {A} read = (bs : List ℕ) (a : A) (rest : List ℕ) → read bs ≡ got a rest → EndOf rest bs

pub end-self : (rest bs : List ℕ) → bs ≡ rest → EndOf rest bs
end-self rest bs e = record { front = []; split = sym e }

end-cons : {rest bs : List ℕ} (b : ℕ) → EndOf rest bs → EndOf rest (b ∷ bs)
end-cons b w = record { front = b ∷ w.front; split = ap (◌∷◌ b) w.split }

end-trans : {c b a : List ℕ} → EndOf c b → EndOf b a → EndOf c a
end-trans {c} w v = record { front = v.front ++ w.front; split = append_assoc v.front w.front c ∙ ap (λ l. v.front ++ l) w.split ∙ v.split }

-- the place at which the end begins
pub end-place : (s rest : List ℕ) (at : ℕ) → at ≤ length s → EndOf rest (drop at s) → rest ≡ drop (length s - length rest) s
end-place s rest at h w =
    let n : length w.front + length rest ≡ length s - at = sym (length-append w.front rest) ∙ ap length w.split ∙ length-drop at s in
    let p : at + length w.front ≡ length s - length rest = omega arith in
    sym (drop-append_seam w.front rest) ∙ ap (drop (length w.front)) w.split ∙ drop-drop (length w.front) at s ∙ ap (λ q. drop q s) p

pub tails-number : (many : ℕ) → Tails (read_number many)
tails-number zero bs n rest e = end-self rest bs (cc)
tails-number (suc many) [] n rest e = not-bad e
tails-number (suc many) (b ∷ bs) n rest e = go (then (read_number many bs) (λ m r. got (b + 256 * m) r) n rest e) (λ m r q. tails-number many bs m r q)
  where
    go : Then (read_number many bs) (λ m r. got (b + 256 * m) r) n rest → ((m : ℕ) (r : List ℕ) → read_number many bs ≡ got m r → EndOf r bs) → EndOf rest (b ∷ bs)
    go t ih = let er : t.rest ≡ rest = cc t.snd in rw (sym er) (end-cons b (ih t.thing t.rest t.fst))

pub tails-term : Tails read_term
tails-term [] t rest e = not-bad e
tails-term (tag ∷ bs) t rest e = zero-case (eqb tag 0) e
  where
    by_variable : Then (read_number 4 bs) as_variable t rest → EndOf rest (tag ∷ bs)
    by_variable w =
        let c = tested (ltb w.thing 32) (got (var w.thing) w.rest) bad_variable t rest w.snd in
        let er : w.rest ≡ rest = cc c.1 in
        rw (sym er) (end-cons tag (tails-number 4 bs w.thing w.rest w.fst))

    by_constant : Then (read_number 4 bs) as_constant t rest → EndOf rest (tag ∷ bs)
    by_constant w = let er : w.rest ≡ rest = cc w.snd in rw (sym er) (end-cons tag (tails-number 4 bs w.thing w.rest w.fst))

    one-case : (b : Bool) → cond b (and_then (read_number 4 bs) as_constant) (bad bad_tag) ≡ got t rest → EndOf rest (tag ∷ bs)
    one-case true e = by_constant (then (read_number 4 bs) as_constant t rest e)
    one-case false e = not-bad e

    zero-case : (b : Bool) → cond b (and_then (read_number 4 bs) as_variable) (cond (eqb tag 1) (and_then (read_number 4 bs) as_constant) (bad bad_tag)) ≡ got t rest → EndOf rest (tag ∷ bs)
    zero-case true e = by_variable (then (read_number 4 bs) as_variable t rest e)
    zero-case false e = one-case (eqb tag 1) e

pub tails-many : {A : Type 0} (read : List ℕ → Read A) → Tails read → (k : ℕ) → Tails (read_many read k)
tails-many read tails zero bs l rest e = end-self rest bs (cc)
tails-many {A} read tails (suc k) bs l rest e = go (then (read bs) more l rest e) (tails-many read tails k)
  where
    more : A → List ℕ → Read (List A)
    more a r = and_then (read_many read k r) (λ m end. got (a ∷ m) end)

    go : Then (read bs) more l rest → Tails (read_many read k) → EndOf rest bs
    go t ih = ending (then (read_many read k t.rest) (λ m end. got (t.thing ∷ m) end) l rest t.snd)
      where
        ending : Then (read_many read k t.rest) (λ m end. got (t.thing ∷ m) end) l rest → EndOf rest bs
        ending u = let er : u.rest ≡ rest = cc u.snd in rw (sym er) (end-trans (ih t.rest u.thing u.rest u.fst) (tails bs t.thing t.rest t.fst))

pub tails-subgoal : (arities : List ℕ) → Tails (read_subgoal arities)
tails-subgoal arities [] g rest e = not-bad e
tails-subgoal arities (r ∷ bs) g rest e = go (then (read_many read_term (get_or arities r 0) bs) (as_subgoal r) g rest t.1)
  where
    t : (ltb r (length arities) ≡ true) × (and_then (read_many read_term (get_or arities r 0) bs) (as_subgoal r) ≡ got g rest)
    t = tested (ltb r (length arities)) (and_then (read_many read_term (get_or arities r 0) bs) (as_subgoal r)) bad_relation g rest e

    go : Then (read_many read_term (get_or arities r 0) bs) (as_subgoal r) g rest → EndOf rest (r ∷ bs)
    go w = let er : w.rest ≡ rest = cc w.snd in rw (sym er) (end-cons r (tails-many read_term tails-term (get_or arities r 0) bs w.thing w.rest w.fst))
