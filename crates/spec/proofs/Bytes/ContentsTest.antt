-- Whether refusals 2, 4 and 5 are due, as tests.
use mathlib.Core.Path.{◌≡◌, refl}
use mathlib.Core.Logic.{inl, inr, ⊎_elim}
use mathlib.Core.Bool.{Bool, true, false, ◌&&◌}
use mathlib.Core.List.{List}
use Prim.Native.Nat.{ℕ}
use native.Mathlib.Omega.{arith}
use lib.ListN.{length}
use lib.Dec.{T, not_T, leb, leb→le, le→leb, nleb→lt, eqb, eqb→eq}
use Rattle.spec.specs.BookLayout.{contents_end}
use Rattle.spec.specs.Contents.{count, entries_in, offset_at, stamp_at, part_at, begin_at, NoGaps, RightRelations}
use Rattle.spec.specs.Refusals.{longest, Fault2}
use Rattle.spec.proofs.Lists.Tests.{and_parts, and_both, every, every-sound, every-complete}
use Rattle.spec.proofs.Decided.Equal.{eq_number, eq_test}
use Rattle.spec.proofs.Lists.Counted.{counted, counted-in, counted-out}
use Rattle.spec.proofs.Bytes.SoundTest.{relations, relations-sound, relations-complete}

module _ (book : List ℕ) where
  -- "book below 2 or above 25,040 bytes"
  abbrev pub sized : Bool
  sized = leb 2 (length book) && leb (length book) longest

  pub sized-sound : T sized → Fault2 book → ⊥
  sized-sound h =
      let w = and_parts (leb 2 (length book)) (leb (length book) longest) h in
      let least = leb→le 2 (length book) w.0 in
      let most = leb→le (length book) longest w.1 in
      ⊎_elim (λ l. omega arith) (λ l. omega arith)

  pub sized-not : (T sized → ⊥) → Fault2 book
  sized-not h = go (leb 2 (length book)) refl
    where
      go : (b : Bool) → leb 2 (length book) ≡ b → Fault2 book
      go false e = inl (nleb→lt 2 (length book) (rw e tt))
      go true e = inr (nleb→lt (length book) longest (not_T (leb (length book) longest) (λ l. h (and_both (leb 2 (length book)) (leb (length book) longest) (rw e tt) l))))

  -- "book ends inside the contents, or offsets and lengths break the rule of no gaps"
  abbrev begins : ℕ → Bool
  begins i = eqb (offset_at book i) (begin_at book i)

  abbrev in_row : Bool
  in_row = every begins (counted 0 (entries_in book)) && eqb (begin_at book (entries_in book)) (length book)

  abbrev pub no_gaps : Bool
  no_gaps = leb (contents_end (count book)) (length book) && in_row

  pub gaps-sound : T no_gaps → NoGaps book
  gaps-sound h =
      let w = and_parts (leb (contents_end (count book)) (length book)) in_row h in
      let v = and_parts (every begins (counted 0 (entries_in book))) (eqb (begin_at book (entries_in book)) (length book)) w.1 in
      record {
        room = leb→le (contents_end (count book)) (length book) w.0;
        begins = λ i l. eqb→eq (offset_at book i) (begin_at book i) (every-sound begins (counted 0 (entries_in book)) v.0 i (counted-in 0 (entries_in book) i (omega arith) (omega arith)));
        ends = eqb→eq (begin_at book (entries_in book)) (length book) v.1;
      }

  pub gaps-complete : NoGaps book → T no_gaps
  gaps-complete g =
      and_both (leb (contents_end (count book)) (length book)) in_row (le→leb (contents_end (count book)) (length book) g.room)
      (and_both (every begins (counted 0 (entries_in book))) (eqb (begin_at book (entries_in book)) (length book))
      (every-complete begins (counted 0 (entries_in book)) (λ i m. let l = counted-out 0 (entries_in book) i m in eq_test eq_number (offset_at book i) (begin_at book i) (g.begins i (omega arith))))
      (eq_test eq_number (begin_at book (entries_in book)) (length book) g.ends))

  -- "relations: stamp not 0, length or an arity out of range"
  abbrev pub right_relations : Bool
  right_relations = eqb (stamp_at book 0) 0 && relations (part_at book 0)

  pub right-sound : T right_relations → RightRelations book
  right-sound h = let w = and_parts (eqb (stamp_at book 0) 0) (relations (part_at book 0)) h in record { stamp = eqb→eq (stamp_at book 0) 0 w.0; arities = relations-sound (part_at book 0) w.1 }

  pub right-complete : RightRelations book → T right_relations
  right-complete r = and_both (eqb (stamp_at book 0) 0) (relations (part_at book 0)) (eq_test eq_number (stamp_at book 0) 0 r.stamp) (relations-complete (part_at book 0) r.arities)
