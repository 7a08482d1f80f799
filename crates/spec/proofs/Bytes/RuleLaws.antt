-- A rule is read exactly where the bytes are its layout: so the layout's rule is unique, and it is decided whether there is one.
use mathlib.Core.Path.{◌≡◌, refl, sym, ap, ap₂, ◌∙◌, subst}
use mathlib.Core.Logic.{◌⊎◌, inl, inr, ◌↔◌}
use mathlib.Core.Bool.{true, cond}
use mathlib.Core.List.{List, [], ◌∷◌, ◌++◌, append-nil}
use Prim.Native.Nat.{ℕ, suc, ◌<◌, ◌≤◌}
use native.Mathlib.Omega.{arith}
use lib.ListN.{length, get_or}
use lib.Dec.{ltb, leb}
use borrow.Author.Tests.{ltb-true, lt-ltb, leb-true, le-leb}
use Rattle.spec.specs.Words.{Term, Subgoal, Rule, Fits}
use Rattle.spec.specs.Numbers.{Bytes}
use Rattle.spec.specs.RuleLayout.{term_bytes, terms_bytes, subgoal_bytes, subgoals_bytes, rule_bytes, TermWithin, TermsWithin, RuleWithin, Layout}
use Rattle.spec.proofs.Bytes.RuleReading.{Fault, Read, got, bad, bad_count, bad_relation, and_then, read_term, read_many, as_subgoal, read_subgoal, as_rule, read_body, read_head, read_goals, read_rule}
use Rattle.spec.proofs.Bytes.TwoWays.{TwoWays, Then, then, tested, not-bad, other-bytes, bytes_after, term-two-ways, AllWithin, many-two-ways}

abbrev terms : (k : ℕ) → TwoWays (read_many read_term k) terms_bytes (AllWithin read_term term_bytes TermWithin term-two-ways k)
terms k = many-two-ways read_term term_bytes TermWithin term-two-ways k

-- subgoals
module _ (arities : List ℕ) where
  abbrev pub SubgoalWithin : Subgoal (Term ℕ) → Type 0
  SubgoalWithin g = Fits arities g × TermsWithin g.terms

  subgoal-forth : (g : Subgoal (Term ℕ)) (rest : List ℕ) → SubgoalWithin g → read_subgoal arities (subgoal_bytes g ++ rest) ≡ got g rest
  subgoal-forth g rest h =
      ap (λ b. cond b (and_then (read_many read_term (get_or arities g.relation 0) (terms_bytes g.terms ++ rest)) (as_subgoal g.relation)) (bad bad_relation)) (lt-ltb _ _ h.0.known)
      ∙ ap (λ r. and_then r (as_subgoal g.relation)) ((terms (get_or arities g.relation 0)).forth g.terms rest (h.0.long, h.1))

  subgoal-back : (bs : List ℕ) (g : Subgoal (Term ℕ)) (rest : List ℕ) → Bytes bs → read_subgoal arities bs ≡ got g rest → SubgoalWithin g × (subgoal_bytes g ++ rest ≡ bs)
  subgoal-back [] g rest h e = not-bad e
  subgoal-back (r ∷ bs) g rest h e = go (then (read_many read_term (get_or arities r 0) bs) (as_subgoal r) g rest t.1)
    where
      t : (ltb r (length arities) ≡ true) × (and_then (read_many read_term (get_or arities r 0) bs) (as_subgoal r) ≡ got g rest)
      t = tested (ltb r (length arities)) (and_then (read_many read_term (get_or arities r 0) bs) (as_subgoal r)) bad_relation g rest e

      go : Then (read_many read_term (get_or arities r 0) bs) (as_subgoal r) g rest → SubgoalWithin g × (subgoal_bytes g ++ rest ≡ r ∷ bs)
      go w =
          let u = (terms (get_or arities r 0)).back bs w.thing w.rest (other-bytes r bs h) w.fst in
          let eg : record { relation = r; terms = w.thing } ≡ g = cc w.snd in
          let er : w.rest ≡ rest = cc w.snd in
          rw (sym eg, sym er) ((record { known = ltb-true _ _ t.0; long = u.0.0 }, u.0.1), ap (λ l. r ∷ l) u.1)

  pub subgoal-two-ways : TwoWays (read_subgoal arities) subgoal_bytes SubgoalWithin
  subgoal-two-ways = record { forth = subgoal-forth; back = subgoal-back }

  abbrev subgoals : (k : ℕ) → TwoWays (read_many (read_subgoal arities) k) subgoals_bytes (AllWithin (read_subgoal arities) subgoal_bytes SubgoalWithin subgoal-two-ways k)
  subgoals k = many-two-ways (read_subgoal arities) subgoal_bytes SubgoalWithin subgoal-two-ways k

  -- whole rules
  module _ (most : ℕ) where
    pub read-layout : (bs : List ℕ) (r : Rule ℕ) → Layout arities most bs r → read_rule arities most bs ≡ got r []
    read-layout bs r l = ap (read_rule arities most) (sym l.written) ∙ counts ∙ heads ∙ body
      where
        rest : List ℕ
        rest = subgoals_bytes r.body

        counts : read_rule arities most (rule_bytes r) ≡ read_head arities (length r.head) (length r.body) (terms_bytes r.head ++ rest)
        counts = rw (le-leb (length r.head) 8 l.within.short, lt-ltb 0 (length r.body) l.within.some, le-leb (length r.body) most l.within.few)

        heads : read_head arities (length r.head) (length r.body) (terms_bytes r.head ++ rest) ≡ read_body arities (length r.body) r.head rest
        heads = ap (λ z. and_then z (read_body arities (length r.body))) ((terms (length r.head)).forth r.head rest (refl, l.within.head))

        body : read_body arities (length r.body) r.head rest ≡ got r []
        body =
            ap (λ z. and_then (read_many (read_subgoal arities) (length r.body) z) (as_rule r.head)) (sym (append-nil rest))
            ∙ ap (λ z. and_then z (as_rule r.head)) ((subgoals (length r.body)).forth r.body [] (refl, λ g m. (l.within.fit g m, l.within.body g m)))

    ended : (head : List (Term ℕ)) (body : List (Subgoal (Term ℕ))) (left : List ℕ) (r : Rule ℕ) (rest : List ℕ) → as_rule head body left ≡ got r rest
        → (left ≡ []) × (rest ≡ []) × (record { head = head; body = body } ≡ r)
    ended head body [] r rest e = (refl, cc, cc)
    ended head body (b ∷ bs) r rest e = not-bad e

    pub layout-read : (bs : List ℕ) (r : Rule ℕ) (rest : List ℕ) → Bytes bs → read_rule arities most bs ≡ got r rest → Layout arities most bs r
    layout-read [] r rest h e = not-bad e
    layout-read (a ∷ []) r rest h e = not-bad (tested (leb a 8) (bad _) bad_count r rest e).1
    layout-read (a ∷ c ∷ bs) r rest h e = by-head (then (read_many read_term a bs) (read_body arities c) r rest t3.1)
      where
        t1 : (leb a 8 ≡ true) × (read_goals arities most a (c ∷ bs) ≡ got r rest)
        t1 = tested (leb a 8) (read_goals arities most a (c ∷ bs)) bad_count r rest e

        t2 : (ltb 0 c ≡ true) × (cond (leb c most) (read_head arities a c bs) (bad bad_count) ≡ got r rest)
        t2 = tested (ltb 0 c) (cond (leb c most) (read_head arities a c bs) (bad bad_count)) bad_count r rest t1.1

        t3 : (leb c most ≡ true) × (read_head arities a c bs ≡ got r rest)
        t3 = tested (leb c most) (read_head arities a c bs) bad_count r rest t2.1

        by-head : Then (read_many read_term a bs) (read_body arities c) r rest → Layout arities most (a ∷ c ∷ bs) r
        by-head w = by-body (then (read_many (read_subgoal arities) c w.rest) (as_rule w.thing) r rest w.snd)
          where
            u : AllWithin read_term term_bytes TermWithin term-two-ways a w.thing × (terms_bytes w.thing ++ w.rest ≡ bs)
            u = (terms a).back bs w.thing w.rest (λ i. h (suc (suc i))) w.fst

            by-body : Then (read_many (read_subgoal arities) c w.rest) (as_rule w.thing) r rest → Layout arities most (a ∷ c ∷ bs) r
            by-body z = rw (sym f.2) record { within = within; written = written }
              where
                f : (z.rest ≡ []) × (rest ≡ []) × (record { head = w.thing; body = z.thing } ≡ r)
                f = ended w.thing z.thing z.rest r rest z.snd

                v : AllWithin (read_subgoal arities) subgoal_bytes SubgoalWithin subgoal-two-ways c z.thing × (subgoals_bytes z.thing ++ z.rest ≡ w.rest)
                v = (subgoals c).back w.rest z.thing z.rest (bytes_after (terms_bytes w.thing) w.rest (subst Bytes (sym u.1) (λ i. h (suc (suc i))))) z.fst

                within : RuleWithin arities most (record { head = w.thing; body = z.thing })
                within = record {
                  short = let q : a ≤ 8 = leb-true _ _ t1.0 in omega (arith, u.0.0);
                  some = let q : 0 < c = ltb-true _ _ t2.0 in omega (arith, v.0.0);
                  few = let q : c ≤ most = leb-true _ _ t3.0 in omega (arith, v.0.0);
                  head = u.0.1;
                  fit = λ g m. (v.0.1 g m).0;
                  body = λ g m. (v.0.1 g m).1;
                }

                written : rule_bytes (record { head = w.thing; body = z.thing }) ≡ a ∷ c ∷ bs
                written = ap₂ ◌∷◌ u.0.0 (ap₂ ◌∷◌ v.0.0 (ap (λ l. terms_bytes w.thing ++ l) (sym (append-nil (subgoals_bytes z.thing)) ∙ ap (λ l. subgoals_bytes z.thing ++ l) (sym f.0) ∙ v.1) ∙ u.1))

    -- "every accepted body is exactly what writing its rule gives", and reading what is written gives the rule
    pub layout-exactly : (bs : List ℕ) (r : Rule ℕ) → Bytes bs → Layout arities most bs r ↔ (read_rule arities most bs ≡ got r [])
    layout-exactly bs r h = (read-layout bs r, layout-read bs r [] h)

    pub layout-unique : (bs : List ℕ) (r r' : Rule ℕ) → Layout arities most bs r → Layout arities most bs r' → r ≡ r'
    layout-unique bs r r' l l' = let e : got r [] ≡ got r' [] = sym (read-layout bs r l) ∙ read-layout bs r' l' in cc

    -- a fault means: the bytes are the layout of no rule within the bounds
    pub no-layout : (bs : List ℕ) (f : Fault) → read_rule arities most bs ≡ bad f → (r : Rule ℕ) → Layout arities most bs r → ⊥
    no-layout bs f e r l = not-bad (sym e ∙ read-layout bs r l)

    pub layout-decided : (bs : List ℕ) → Bytes bs → ((r : Rule ℕ) × Layout arities most bs r) ⊎ ((r : Rule ℕ) → Layout arities most bs r → ⊥)
    layout-decided bs h = go (read_rule arities most bs) refl
      where
        go : (z : Read (Rule ℕ)) → read_rule arities most bs ≡ z → ((r : Rule ℕ) × Layout arities most bs r) ⊎ ((r : Rule ℕ) → Layout arities most bs r → ⊥)
        go (got r rest) e = inl (r, layout-read bs r rest h e)
        go (bad f) e = inr (no-layout bs f e)
