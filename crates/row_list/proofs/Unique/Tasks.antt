-- Any two results that meet a promise are the same, and leave the same codes.
use mathlib.Core.Path.{◌≡◌, sym, ap, ◌∙◌}
use mathlib.Core.List.{List}
use Prim.Native.Nat.{ℕ}
use lib.ListN.{length}
use Rattle.spec.specs.Given.{at_front}
use Rattle.spec.proofs.Decided.Orders.{term_order}
use Rattle.codes.specs.Code.{term_code, codes_of}
use Rattle.rule_codes.specs.Laid.{QuestionLaid}
use Rattle.search_meaning.specs.Coded.{TermIn}
use Rattle.summary_rows.specs.RowTask.{onto}
use Rattle.summary_rows.proofs.Unique.Rows.{enumerates-once}
use Rattle.row_list.specs.Tasks.{SomeSummary, SourceCodes, TargetCodes}

module _ {relations bytes before after other : List ℕ} {n m : ℕ} where
  pub source-once : {old new more : List ℕ} → SomeSummary relations bytes → SourceCodes relations bytes before after old new n → SourceCodes relations bytes before other old more m → (n ≡ m) × (after ≡ other) × (new ≡ more)
  source-once w a b = (a.count w.rule w.is ∙ sym (b.count w.rule w.is), a.codes w.rule w.is ∙ sym (b.codes w.rule w.is), a.widths w.rule w.is ∙ sym (b.widths w.rule w.is))

  pub target_once : QuestionLaid relations bytes → TargetCodes relations bytes before after n → TargetCodes relations bytes before other m → (n ≡ m) × (after ≡ other)
  target_once w a b =
      let q = w.rule in
      let l = w.layout in
      let same : a.terms q l ≡ b.terms q l = enumerates-once term_order (λ t. TermIn t q.body) (a.terms q l) (b.terms q l) (a.all q l).all (b.all q l).all in
      (a.count q l ∙ ap (λ ts. length (onto ts q)) same ∙ sym (b.count q l), a.codes q l ∙ ap (λ ts. at_front (codes_of term_code (onto ts q)) before) same ∙ sym (b.codes q l))
