-- A sheet tried by computation: where the test passes, what the sheet says comes true.
use mathlib.Core.Path.{sym, subst}
use mathlib.Core.Logic.{inl, ⊎_elim}
use mathlib.Core.Bool.{Bool, ◌&&◌, ◌||◌}
use mathlib.Core.List.{List, [], ◌∷◌, map}
use Prim.Native.Nat.{ℕ}
use native.Mathlib.Omega.{arith}
use lib.ListN.{length}
use lib.Dec.{T, leb, leb→le, ltb, ltb→lt, eqb, eqb→eq}
use Rattle.spec.specs.Words.{var}
use Rattle.spec.specs.Refresh.{lead}
use Rattle.spec.specs.Book.{Book}
use Rattle.spec.specs.BookLayout.{most_summaries}
use Rattle.spec.specs.Contents.{count}
use Rattle.spec.specs.Refusals.{of_book, of_entry, longest, Fault2, two, three}
use Rattle.spec.specs.Table.{Fault1, RewriterRefusal, read}
use Rattle.spec.proofs.Lists.Tests.{and_parts, or_cases}
use Rattle.spec.proofs.Examples.Written.{x0, x1, rule, on, at1}
use Rattle.sheets.specs.Sheet.{Sheet, accepts, refuses, leads, ComesTrue}
use Rattle.sheets.proofs.LeadTest.{same_lead, lead-sound}
use Rattle.sheets.proofs.ValueTest.{many, many-sound, accepted, accepted-sound, refused, refused-sound}

-- the book with nine subgoals and 81 rows, as a value
abbrev nine_subgoals : Book
nine_subgoals = at1 (1 ∷ []) (rule [] (map (λ v. on 0 (var v ∷ [])) (0 ∷ 1 ∷ 2 ∷ 3 ∷ 4 ∷ 5 ∷ 6 ∷ 7 ∷ 8 ∷ []))) (rule (x0 ∷ x1 ∷ []) (on 0 (x0 ∷ []) ∷ on 0 (x1 ∷ []) ∷ []) ∷ [])

module _ (book : List ℕ) where
  abbrev right_size : Bool
  right_size = leb 2 (length book) && leb (length book) longest

  size-sound : T right_size → Fault2 book → ⊥
  size-sound h =
      let w = and_parts (leb 2 (length book)) (leb (length book) longest) h in
      let least = leb→le 2 (length book) w.0 in
      let most = leb→le (length book) longest w.1 in
      ⊎_elim (λ l. omega arith) (λ l. omega arith)

  -- the number, and the test of that number
  abbrev is2 : ℕ → Bool
  is2 k = eqb k 2 && ltb (length book) 2

  abbrev is3 : ℕ → Bool
  is3 k = eqb k 3 && (right_size && ltb most_summaries (count book))

  abbrev is9 : ℕ → Bool
  is9 k = eqb k 9 && many book nine_subgoals

  abbrev is10 : ℕ → Bool
  is10 k = eqb k 10 && refused book

  abbrev turned_down : ℕ → Bool
  turned_down k = is2 k || (is3 k || (is9 k || is10 k))

  module _ (n m : ℕ) (room : Fault1 n m → ⊥) (k : ℕ) where
    numbered : (j : ℕ) (b : Bool) → (T b → RewriterRefusal book n m (of_book j)) → T (eqb k j && b) → RewriterRefusal book n m (of_book k)
    numbered j b sound h = let w = and_parts (eqb k j) b h in subst (λ i. RewriterRefusal book n m (of_book i)) (sym (eqb→eq k j w.0)) (sound w.1)

    three-sound : T (right_size && ltb most_summaries (count book)) → RewriterRefusal book n m (of_book 3)
    three-sound h = let w = and_parts right_size (ltb most_summaries (count book)) h in read room (three (size-sound w.0) (ltb→lt most_summaries (count book) w.1))

    either : (a b : Bool) → (T a → RewriterRefusal book n m (of_book k)) → (T b → RewriterRefusal book n m (of_book k)) → T (a || b) → RewriterRefusal book n m (of_book k)
    either a b f g h = ⊎_elim f g (or_cases a b h)

    turned-down : T (turned_down k) → RewriterRefusal book n m (of_book k)
    turned-down =
        either (is2 k) (is3 k || (is9 k || is10 k)) (numbered 2 (ltb (length book) 2) (λ h. read room (two (inl (ltb→lt (length book) 2 h)))))
        (either (is3 k) (is9 k || is10 k) (numbered 3 (right_size && ltb most_summaries (count book)) three-sound)
        (either (is9 k) (is10 k) (numbered 9 (many book nine_subgoals) (many-sound book n m room nine_subgoals))
        (numbered 10 (refused book) (refused-sound book n m room))))

abbrev pub tried : Sheet → Bool
tried (accepts book answer witness) = accepted book answer witness
tried (refuses book number place) = turned_down book number && eqb place 0
tried (leads need stamp l) = same_lead (lead need stamp) l

pub tried-sound : (s : Sheet) → T (tried s) → ComesTrue s
tried-sound (accepts book answer witness) h = λ n m room. accepted-sound book n m room answer witness h
tried-sound (refuses book number place) h =
    let w = and_parts (turned_down book number) (eqb place 0) h in
    λ n m room. subst (λ p. RewriterRefusal book n m (of_entry number p)) (sym (eqb→eq place 0 w.1)) (turned-down book n m room number w.0)
tried-sound (leads need stamp l) h = lead-sound (lead need stamp) l h
