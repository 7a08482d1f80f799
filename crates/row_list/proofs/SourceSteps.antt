-- The source of a summary's task: its head's places, then its body behind them.
use mathlib.Core.Path.{◌≡◌, refl, sym, ap, ◌∙◌}
use mathlib.Core.List.{List, [], ◌∷◌, ◌++◌, map, map-append}
use Prim.Native.Nat.{ℕ, zero, suc, ◌+◌, ◌*◌, ◌-◌, ◌≤◌}
use native.Mathlib.Omega.{arith}
use lib.ListN.{length, get_or, take, drop, replicate, length-append, length-map, length-replicate}
use lib.Seq.{length-take-le}
use Rattle.spec.specs.Words.{Term, Rule}
use Rattle.spec.specs.Given.{at_front}
use Rattle.codes.specs.Code.{slot_code, codes_of, widths_of}
use Rattle.codes.proofs.Padded.{codes-length, codes-append, widths-length}
use Rattle.rule_codes.specs.Promises.{HeadCount, BodyCodes, BodyWidths}
use Rattle.rule_codes.proofs.RuleLaid.{goals-counted}
use Rattle.rule_codes.proofs.Stores.{front_length, front-again}
use Rattle.summary_rows.specs.RowTask.{alone, placed}
use Rattle.row_list.specs.Alone.{alone_codes}
use Rattle.row_list.specs.Tasks.{SummaryIs, SomeSummary, HeadSlots, SourceCodes}
use Rattle.row_list.proofs.AloneLaws.{alone-codes}
use Rattle.row_list.proofs.Behind.{mid-long, behind}
use Rattle.spec.proofs.Lists.Parts.{part-long}
use Rattle.row_list.proofs.SlotSteps.{heads-few}

-- ones at the front of ones
ones : (ts : List (Term ℕ)) (n : ℕ) → length ts ≤ n → replicate n 1 ≡ at_front (widths_of (map alone ts)) (replicate n 1)
ones [] n h = refl
ones (t ∷ ts) zero h = absurd (omega arith)
ones (t ∷ ts) (suc n) h = ap (λ l. 1 ∷ l) (ones ts n (omega arith))

module _ {relations bytes : List ℕ} (w : SomeSummary relations bytes) {h : ℕ} (count : HeadCount bytes h) {slots : List ℕ} (is : HeadSlots bytes slots) where
  slots-are : (v : Rule ℕ) → SummaryIs relations bytes v → take h slots ≡ map slot_code v.head
  slots-are v s =
      front-again (map slot_code v.head) (replicate 8 0) _ h (is.is relations v s) (length-map v.head slot_code ∙ sym (count.is relations 8 v s.layout))

  pub slots-long : length slots ≡ 8
  slots-long =
      let few = w.is.layout.within.short in
      ap length (is.is relations w.rule w.is) ∙ front_length (map slot_code w.rule.head) (replicate 8 0) (omega (arith, length-map w.rule.head slot_code))

  pub shown-long : length (take h slots) ≡ h
  shown-long = length-take-le h slots (omega (arith, slots-long, heads-few count w))

  pub heads-room : {area : ℕ} → 144 ≤ area → 9 * length (take h slots) ≤ area
  heads-room r = omega (arith, shown-long, heads-few count w)

  module _ (source mid : List ℕ) (room : 144 ≤ length source) (written : mid ≡ at_front (alone_codes (take h slots)) source) where
    heads-long : (v : Rule ℕ) → SummaryIs relations bytes v → length (codes_of slot_code (map alone v.head)) ≡ 9 * h
    heads-long v s = codes-length slot_code (map alone v.head) ∙ omega (arith, length-map v.head alone, count.is relations 8 v s.layout)

    heads-written : (v : Rule ℕ) → SummaryIs relations bytes v → mid ≡ at_front (codes_of slot_code (map alone v.head)) source
    heads-written v s = written ∙ ap (λ l. at_front l source) (ap alone_codes (slots-are v s) ∙ alone-codes slot_code v.head)

    body-fits : (v : Rule ℕ) → SummaryIs relations bytes v → 9 * h + length (codes_of slot_code v.body) ≤ length source
    body-fits v s = let few = s.layout.within.few in omega (arith, codes-length slot_code v.body, heads-few count w)

    source-long : length mid ≡ length source
    source-long =
        mid-long (codes_of slot_code (map alone w.rule.head)) (codes_of slot_code w.rule.body) source mid [] (9 * h) (heads-long w.rule w.is) (body-fits w.rule w.is) (heads-written w.rule w.is)

    pub source-part : 9 * h ≤ length mid
    source-part = omega (arith, source-long, heads-few count w)

    pub source-room : 9 * get_or bytes 1 0 ≤ length (take (length mid - 9 * h) (drop (9 * h) mid))
    source-room = let few = w.is.layout.within.few in omega (arith, goals-counted w.is.layout, part-long (9 * h) mid, source-long, heads-few count w)

    module _ {widths : List ℕ} (one : widths ≡ replicate 16 1) where
      pub widths-part : h ≤ length widths
      widths-part = omega (arith, heads-few count w, ap length one, length-replicate {A = ℕ} 16 1)

      pub widths-room : 1 * get_or bytes 1 0 ≤ length (take (length widths - h) (drop h widths))
      widths-room = let few = w.is.layout.within.few in omega (arith, goals-counted w.is.layout, part-long h widths, ap length one, length-replicate {A = ℕ} 16 1, heads-few count w)

      module _ {part tail : List ℕ} {n : ℕ} (codes : BodyCodes relations bytes slot_code (take (length mid - 9 * h) (drop (9 * h) mid)) part n) (wide : BodyWidths relations bytes (take (length widths - h) (drop h widths)) tail n) where
        pub source-goals : h + n ≤ 16
        source-goals = let few = w.is.layout.within.few in omega (arith, heads-few count w, codes.count 8 w.rule w.is.layout)

        pub source-codes : SourceCodes relations bytes source (take (9 * h) mid ++ (part ++ drop (length mid - 9 * h) (drop (9 * h) mid))) widths (take h widths ++ (tail ++ drop (length widths - h) (drop h widths))) (h + n)
        source-codes = record {
          count = λ v s. omega (arith, count.is relations 8 v s.layout, codes.count 8 v s.layout, length-append (map alone v.head) v.body, length-map v.head alone);
          codes = λ v s.
              behind (codes_of slot_code (map alone v.head)) (codes_of slot_code v.body) source mid part (9 * h) (heads-long v s) (body-fits v s) (heads-written v s) (codes.codes 8 v s.layout)
              ∙ ap (λ l. at_front l source) (sym (codes-append slot_code (map alone v.head) v.body));
          widths = λ v s. widths-are v s;
        }
          where
            widths-are : (v : Rule ℕ) → SummaryIs relations bytes v → take h widths ++ (tail ++ drop (length widths - h) (drop h widths)) ≡ at_front (widths_of (placed v)) widths
            widths-are v s =
                let heads = count.is relations 8 v s.layout in
                let few = s.layout.within.few in
                let long : length (widths_of (map alone v.head)) ≡ h = omega (arith, widths-length (map alone v.head), length-map v.head alone) in
                let fits : h + length (widths_of v.body) ≤ length widths = omega (arith, widths-length v.body, ap length one, length-replicate {A = ℕ} 16 1, heads-few count w) in
                let front : widths ≡ at_front (widths_of (map alone v.head)) widths = one ∙ ones v.head 16 (omega (arith, heads-few count w)) ∙ ap (at_front (widths_of (map alone v.head))) (sym one) in
                behind (widths_of (map alone v.head)) (widths_of v.body) widths widths tail h long fits front (wide.widths 8 v s.layout)
                ∙ ap (λ l. at_front l widths) (sym (map-append (λ g. length g.terms) (map alone v.head) v.body))
