-- The walk over the rows: what stands at the front of an area after the first r of them.
use mathlib.Core.Path.{◌≡◌, sym, ap, ap₂, subst, ◌∙◌}
use mathlib.Core.List.{List, [], ◌∷◌, ◌++◌, append_assoc, append-nil}
use Prim.Native.Nat.{ℕ, zero, suc, ◌+◌, ◌*◌, ◌-◌, ◌<◌, ◌≤◌}
use native.Mathlib.Omega.{arith}
use lib.ListN.{length, get_or, take, drop, length-append, length-drop, length-take, take-append-drop, drop_of_length-le}
use lib.Seq.{sets, sets-eq, take-suc, take_all, length-take-le, take_at, drop-append-add, drop-drop, length-sets}
use borrow.Rule.Slice.PartMut.{put_mid}
use Rattle.spec.specs.Words.{Term, Subgoal}
use Rattle.spec.specs.Summaries.{or_empty, Own, in_place, uses, joined}
use Rattle.spec.specs.Book.{Book, admitted_of}
use Rattle.spec.specs.Given.{at_front}
use Rattle.spec.proofs.Lists.At.{get_or-in}
use Rattle.spec.proofs.Lists.Parts.{to_end}
use Rattle.choice_theory.specs.Numbered.{nothing, row_at}
use Rattle.codes.specs.Code.{term_code, subgoal_codes, codes_of, widths_of}
use Rattle.codes.proofs.Padded.{nine, codes-length, widths-length}
use Rattle.rule_codes.proofs.Stores.{front-more}
use Rattle.search_meaning.proofs.Owners.{uses-long}
use Rattle.book_codes.specs.RowGiven.{RowOf, RowGiven}
use Rattle.book_codes.specs.OneUse.{OneUse, OneCount, OneWidths}
use Rattle.book_codes.specs.RowsGiven.{RowsOf, RowsGiven}
use Rattle.book_codes.specs.AllUses.{GoalsCounted}
use Rattle.book_codes.proofs.Spread.{spread, codes_each, widths_each, spread-more, spread-long, uses-more}
use Rattle.spec.proofs.Lists.Joined.{joined-more}

-- the codes of the row of that number, and what is behind
abbrev pub row_from : List ℕ → ℕ → List ℕ
row_from rows r = take (length rows - 9 * r) (drop (9 * r) rows)

nine-at : {A : Type 0} (code : A → ℕ) (l : List (Subgoal A)) (rest : List ℕ) (r : ℕ) → r < length l → take 9 (drop (9 * r) (codes_of code l ++ rest)) ≡ subgoal_codes code (get_or l r nothing)
nine-at code [] rest r h = absurd (omega arith)
nine-at code (g ∷ l) rest zero h = ap (take 9) (append_assoc (subgoal_codes code g) (codes_of code l) rest) ∙ take_at (subgoal_codes code g) (codes_of code l ++ rest) 9 (nine code g)
nine-at code (g ∷ l) rest (suc r) h =
    let e : 9 * suc r ≡ length (subgoal_codes code g) + 9 * r = omega (arith, nine code g) in
    ap₂ (λ k w. take 9 (drop k w)) e (append_assoc (subgoal_codes code g) (codes_of code l) rest) ∙ ap (take 9) (drop-append-add (subgoal_codes code g) (codes_of code l ++ rest) (9 * r)) ∙ nine-at code l rest r (omega arith)

-- codes stored at the front of a part that is lent
pub stored-behind : (area codes after : List ℕ) (k : ℕ) → k + length codes ≤ length area → after ≡ at_front codes (take (length area - k) (drop k area)) → put_mid k (length area - k) area after ≡ sets area k codes
stored-behind area codes after k h e =
    ap (λ l. take k area ++ (after ++ l)) (drop_of_length-le (drop k area) {i = length area - k} (omega (arith, length-drop k area)))
    ∙ ap (λ l. take k area ++ l) (append-nil after ∙ e ∙ ap (at_front codes) (to_end area k) ∙ ap (λ l. codes ++ l) (drop-drop (length codes) k area))
    ∙ sym (append_assoc (take k area) codes (drop (k + length codes) area)) ∙ sym (sets-eq codes area k h)

-- a use by its number
pub numbered : {book row before after : List ℕ} {code : Term (Own ℕ) → ℕ} {u r goals : ℕ} → u ≡ r → OneUse book row code u before after goals → OneUse book row code r before after goals
numbered {book} {row} {before} {after} {code} {goals = goals} e = subst (λ u. OneUse book row code u before after goals) e

module _ {book rows : List ℕ} {n : ℕ} where
  module _ {b : Book} {l : List (Subgoal (Term ℕ))} (w : RowsOf book rows n b l) where
    rows_long : 9 * n ≤ length rows
    rows_long = omega (arith, length-take (9 * n) rows, ap length w.codes, codes-length term_code l, w.count)

    pub row-read : (r : ℕ) → r < n → (row : List ℕ) → take 9 row ≡ take 9 (drop (9 * r) rows) → RowOf book row b (row_at l r)
    row-read r h row e =
        let less : r < length l = let c = w.count in omega arith in
        let m = get_or-in nothing l r less in
        let o = w.within.over (row_at l r) m in
        record {
          sound = w.sound;
          over = record { rule = o.0; admitted = o.1; long = w.long (row_at l r) m ∙ ap (λ d. length (or_empty d).head) o.1 };
          within = w.within.within (row_at l r) m;
          codes =
              e ∙ ap (λ k. take 9 (drop (9 * r) k)) (sym (take-append-drop (9 * n) rows) ∙ ap (λ f. f ++ drop (9 * n) rows) w.codes)
              ∙ nine-at term_code l (drop (9 * n) rows) r less;
        }

    pub row_of : (r : ℕ) → r < n → RowOf book (row_from rows r) b (row_at l r)
    row_of r h = row-read r h (row_from rows r) (ap (take 9) (to_end rows (9 * r)))

    -- the uses of one row more
    pub uses-take : (r : ℕ) → r < n → uses (admitted_of b) 0 (take (r + 1) l) ≡ uses (admitted_of b) 0 (take r l) ++ (in_place (admitted_of b) r (row_at l r) ∷ [])
    uses-take r h =
        let less : r < length l = let c = w.count in omega arith in
        let one : r + 1 ≡ suc r = omega arith in
        let many : 0 + length (take r l) ≡ r = omega (arith, length-take-le r l (omega arith)) in
        ap (λ k. uses (admitted_of b) 0 (take k l)) one ∙ ap (uses (admitted_of b) 0) (take-suc l r nothing less)
        ∙ uses-more (admitted_of b) 0 (take r l) (row_at l r) ∙ ap (λ k. uses (admitted_of b) 0 (take r l) ++ (in_place (admitted_of b) k (row_at l r) ∷ [])) many

    pub uses-many : (r : ℕ) → r ≤ n → length (uses (admitted_of b) 0 (take r l)) ≡ r
    uses-many r h = uses-long (admitted_of b) 0 (take r l) ∙ length-take-le r l (let c = w.count in omega arith)

  pub row-given : RowsGiven book rows n → {r : ℕ} → r < n → {row : List ℕ} → take 9 row ≡ take 9 (drop (9 * r) rows) → RowGiven book row
  row-given g {r} h {row} e = record { value = g.value; goal = row_at g.list r; is = row-read g.is r h row e }

  pub row-there : RowsGiven book rows n → (r : ℕ) → r < n → RowGiven book (row_from rows r)
  row-there g r h = record { value = g.value; goal = row_at g.list r; is = row_of g.is r h }

  pub rows-room : RowsGiven book rows n → 9 * n ≤ length rows
  rows-room g = rows_long g.is

module _ (book rows : List ℕ) (n : ℕ) where
  -- How many subgoals the first r rows have.
  pub record GoalsReached (r at : ℕ) : Type 0 where
    pub few : at ≤ 8 * r
    pub is : (b : Book) (l : List (Subgoal (Term ℕ))) → RowsOf book rows n b l → at ≡ length (joined (uses (admitted_of b) 0 (take r l)))

  -- How many the next row's use has.
  pub record Goals (r goals : ℕ) : Type 0 where
    pub some : 1 ≤ goals
    pub few : goals ≤ 8
    pub is : (b : Book) (l : List (Subgoal (Term ℕ))) → RowsOf book rows n b l → goals ≡ length (in_place (admitted_of b) r (row_at l r))

  -- The area after the first r rows.
  pub record RowsWritten (one : ℕ → List (Subgoal (Term (Own ℕ))) → List ℕ) (before : List ℕ) (r : ℕ) (after : List ℕ) : Type 0 where
    pub long : length after ≡ length before
    pub is : (b : Book) (l : List (Subgoal (Term ℕ))) → RowsOf book rows n b l → after ≡ at_front (spread one 0 (uses (admitted_of b) 0 (take r l))) before

  -- The next row's use is stored from a place on.
  pub record Added (one : ℕ → List (Subgoal (Term (Own ℕ))) → List ℕ) (r to : ℕ) (after next : List ℕ) : Type 0 where
    pub is : (b : Book) (l : List (Subgoal (Term ℕ))) → RowsOf book rows n b l → next ≡ sets after to (one r (in_place (admitted_of b) r (row_at l r)))

module _ {book rows : List ℕ} {n : ℕ} where
  module _ {r : ℕ} (turn : r < n) where
    module _ {row : List ℕ} (chunk : take 9 row ≡ take 9 (drop (9 * r) rows)) where
      pub use-goals : {code : Term (Own ℕ) → ℕ} {goals : ℕ} {before after : List ℕ} → OneUse book row code r before after goals → Goals book rows n r goals
      use-goals u = record { some = u.some; few = u.few; is = λ b l w. u.count b (row_at l r) (row-read w r turn row chunk) }

      pub count-goals : {goals : ℕ} → OneCount book row goals → Goals book rows n r goals
      count-goals u = record { some = u.some; few = u.few; is = λ b l w. u.count b (row_at l r) r (row-read w r turn row chunk) }

      -- the use's codes, in a part that is lent
      pub codes-added : {code : Term (Own ℕ) → ℕ} {goals to : ℕ} {area after : List ℕ} → OneUse book row code r (take (length area - to) (drop to area)) after goals
          → to + 9 * goals ≤ length area → Added book rows n (codes_each code) r to area (put_mid to (length area - to) area after)
      codes-added {code} {to = to} {area} {after} u h = record { is = is }
        where
          is : (b : Book) (l : List (Subgoal (Term ℕ))) → RowsOf book rows n b l → put_mid to (length area - to) area after ≡ sets area to (codes_of code (in_place (admitted_of b) r (row_at l r)))
          is b l w =
              let m = in_place (admitted_of b) r (row_at l r) in
              let g = row-read w r turn row chunk in
              stored-behind area (codes_of code m) after to (omega (arith, codes-length code m, u.count b (row_at l r) g)) (u.codes b (row_at l r) g)

      pub widths-added : {goals to : ℕ} {area after : List ℕ} → OneWidths book row (take (length area - to) (drop to area)) after → Goals book rows n r goals
          → to + goals ≤ length area → Added book rows n widths_each r to area (put_mid to (length area - to) area after)
      widths-added {to = to} {area} {after} u g h = record { is = is }
        where
          is : (b : Book) (l : List (Subgoal (Term ℕ))) → RowsOf book rows n b l → put_mid to (length area - to) area after ≡ sets area to (widths_of (in_place (admitted_of b) r (row_at l r)))
          is b l w =
              let m = in_place (admitted_of b) r (row_at l r) in
              stored-behind area (widths_of m) after to (omega (arith, widths-length m, g.is b l w)) (u.widths b (row_at l r) r (row-read w r turn row chunk))

    -- numbers by how many subgoals the use has
    pub numbers-added : (f : ℕ → ℕ → List ℕ) {goals to : ℕ} {after next : List ℕ} → Goals book rows n r goals → next ≡ sets after to (f r goals) → Added book rows n (λ u m. f u (length m)) r to after next
    numbers-added f {to = to} {after} g e = record { is = λ b l w. e ∙ ap (λ k. sets after to (f r k)) (g.is b l w) }

    module _ {at goals : ℕ} (reached : GoalsReached book rows n r at) (added : Goals book rows n r goals) where
      pub reach-goes : GoalsReached book rows n (r + 1) (at + goals)
      reach-goes = record {
        few = let f = reached.few in let g = added.few in omega arith;
        is = λ b l w.
            let all = uses (admitted_of b) 0 (take r l) in
            let m = in_place (admitted_of b) r (row_at l r) in
            ap₂ ◌+◌ (reached.is b l w) (added.is b l w) ∙ sym (length-append (joined all) m) ∙ ap length (sym (joined-more all m) ∙ ap joined (sym (uses-take w r turn)));
      }

      module _ (one : ℕ → List (Subgoal (Term (Own ℕ))) → List ℕ) (size : ℕ) (each : (u : ℕ) (m : List (Subgoal (Term (Own ℕ)))) → length (one u m) ≡ size * length m) where
        pub so-goes : {before after next : List ℕ} {to : ℕ} → to ≡ size * at → to + size * goals ≤ length before → RowsGiven book rows n
            → RowsWritten book rows n one before r after → Added book rows n one r to after next → RowsWritten book rows n one before (r + 1) next
        so-goes {before} {after} {next} {to} place room given s a = record { long = ap length (a.is given.value given.list given.is) ∙ length-sets after to (one r (in_place (admitted_of given.value) r (row_at given.list r))) ∙ s.long; is = is }
          where
            is : (b : Book) (l : List (Subgoal (Term ℕ))) → RowsOf book rows n b l → next ≡ at_front (spread one 0 (uses (admitted_of b) 0 (take (r + 1) l))) before
            is b l w =
                let all = uses (admitted_of b) 0 (take r l) in
                let m = in_place (admitted_of b) r (row_at l r) in
                let front = spread one 0 all in
                let many : 0 + length all ≡ r = omega (arith, uses-many w r (omega arith)) in
                let size₁ : length front ≡ to = spread-long one size each 0 all ∙ ap (λ k. size * k) (sym (reached.is b l w)) ∙ sym place in
                let size₂ : length (one r m) ≡ size * goals = each r m ∙ ap (λ k. size * k) (sym (added.is b l w)) in
                a.is b l w
                ∙ ap₂ (λ l k. sets l k (one r m)) (s.is b l w) (sym size₁)
                ∙ front-more front (one r m) before (omega arith)
                ∙ ap (λ f. at_front f before) (ap (λ k. front ++ one k m) (sym many) ∙ sym (spread-more one 0 all m) ∙ ap (spread one 0) (sym (uses-take w r turn)))

  module _ {r : ℕ} (over : n ≤ r) where
    all-rows : (b : Book) (l : List (Subgoal (Term ℕ))) → RowsOf book rows n b l → take r l ≡ l
    all-rows b l w = take_all r l (let c = w.count in omega arith)

    pub reach-ends : {at : ℕ} → GoalsReached book rows n r at → GoalsCounted book rows n at
    reach-ends g = record { is = λ b l w. g.is b l w ∙ ap (λ m. length (joined (uses (admitted_of b) 0 m))) (all-rows b l w) }

    pub so-ends : {one : ℕ → List (Subgoal (Term (Own ℕ))) → List ℕ} {before after : List ℕ} (all : List (List (Subgoal (Term (Own ℕ)))) → List ℕ)
        → ((ls : List (List (Subgoal (Term (Own ℕ))))) → spread one 0 ls ≡ all ls)
        → RowsWritten book rows n one before r after
        → (b : Book) (l : List (Subgoal (Term ℕ))) → RowsOf book rows n b l → after ≡ at_front (all (uses (admitted_of b) 0 l)) before
    so-ends {one} {before} all same s b l w = s.is b l w ∙ ap (λ m. at_front (spread one 0 (uses (admitted_of b) 0 m)) before) (all-rows b l w) ∙ ap (λ f. at_front f before) (same (uses (admitted_of b) 0 l))
