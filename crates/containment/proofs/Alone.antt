-- Theorem 6: the answer and its witness depend on the question and the admitted summaries with their numbers alone.
use mathlib.Core.Path.{◌≡◌, refl, sym, ap, ap₂, ◌∙◌, subst}
use mathlib.Core.Logic.{◌⊎◌, inl, inr, ◌↔◌}
use mathlib.Core.Bool.{Bool, true, false}
use mathlib.Core.Option.{some, none}
use mathlib.Core.List.{List, [], ◌∷◌, map}
use Prim.Native.Nat.{ℕ}
use lib.Dec.{T}
use Rattle.spec.specs.Words.{Term, Subgoal, Rule}
use Rattle.spec.specs.Summaries.{Summaries, summary, rewriting}
use Rattle.spec.specs.Order.{First}
use Rattle.spec.specs.Answer.{Answer, AtPairs, Sends, There, Back}
use Rattle.spec.specs.Refresh.{admitted}
use Rattle.spec.specs.Book.{Summary, Book, if_true, admitted_of}
use Rattle.spec.specs.Demand.{OverAdmitted}
use Rattle.spec.specs.LeftOut.{LeftOut, SameButLeftOut}
use Rattle.spec.proofs.Decided.Answered.{Answered, Right}
use Rattle.spec.proofs.Refresh.Admits.{test-admitted}
use Rattle.containment.proofs.Sound.{rule_of}
use Rattle.containment.proofs.Extend.{AdmitsMore, extend-uses, extend-expansion, extend-rewrites}

-- The same summaries are admitted, under the same numbers.
abbrev pub SameAdmitted : Summaries → Summaries → Type 0
SameAdmitted s t = AdmitsMore s t × AdmitsMore t s

first-same : {A : Type 0} {P Q : A → Type 0} {Before : A → A → Type 0} → ((a : A) → P a ↔ Q a) → (a : A) → First P Before a ↔ First Q Before a
first-same same a = (
  λ f. record { holds = (same a).0 f.holds; least = λ b q. f.least b ((same b).1 q) },
  λ f. record { holds = (same a).1 f.holds; least = λ b p. f.least b ((same b).0 p) },
)

there-extends : (s t : Summaries) → AdmitsMore s t → (q r : Rule ℕ) → OverAdmitted s r → (bytes : List ℕ) → There s q r bytes → There t q r bytes
there-extends s t more q r over bytes w = record { targets = w.targets; named = subst (λ us. AtPairs us bytes w.targets) (extend-uses s t more 0 r.body over) w.named; mapping = w.mapping }

back-extends : (s t : Summaries) → AdmitsMore s t → (q r : Rule ℕ) → OverAdmitted s r → (bytes : List ℕ) → Back s q r bytes → Back t q r bytes
back-extends s t more q r over bytes w = record { targets = w.targets; named = w.named; mapping = subst (λ z. Sends z q.head w.targets) (extend-expansion s t more r over) w.mapping }

pub same_answer : (s t : Summaries) → SameAdmitted s t → (q : Rule ℕ) (l : List (Subgoal (Term ℕ))) → Answer s q l ↔ Answer t q l
same_answer s t same q l = first-same (λ m. (extend-rewrites s t same.0 q m, extend-rewrites t s same.1 q m)) l

-- The answer and the two parts of its witness, first byte by byte.
right-extends : (s t : Summaries) → SameAdmitted s t → (q : Rule ℕ) (a : Answered) → Right s q a → Right t q a
right-extends s t same q a w = record {
  answers = (same_answer s t same q a.rows).0 w.answers;
  goes = (first-same (λ bytes. (there-extends s t same.0 q r over bytes, there-extends t s same.1 q r over' bytes)) a.there).0 w.goes;
  returns = (first-same (λ bytes. (back-extends s t same.0 q r over bytes, back-extends t s same.1 q r over' bytes)) a.back).0 w.returns;
}
  where
    r : Rule ℕ
    r = rewriting q a.rows

    over : OverAdmitted s r
    over g m = let y = w.answers.holds.rows g m in (y.rule, y.admitted)

    over' : OverAdmitted t r
    over' g m = let y = over g m in (y.0, same.0 g.relation y.0 y.1)

pub same-right : (s t : Summaries) → SameAdmitted s t → (q : Rule ℕ) (a : Answered) → Right s q a ↔ Right t q a
same-right s t same q a = (right-extends s t same q a, right-extends t s (same.1, same.0) q a)

-- Two books with the same question and the same admitted summaries.
pub books-same : (b c : Book) → b.question ≡ c.question → SameAdmitted (admitted_of b) (admitted_of c) → (a : Answered) → Right (admitted_of b) b.question a ↔ Right (admitted_of c) c.question a
books-same b c question same a = subst (λ q. Right (admitted_of b) b.question a ↔ Right (admitted_of c) q a) question (same-right (admitted_of b) (admitted_of c) same b.question a)

left-out-none : (need : ℕ) (m : Summary) → LeftOut need m → rule_of need m ≡ none
left-out-none need m out = go (admitted need m.stamp m.rule) (λ t. out (test-admitted need m.stamp m.rule t))
  where
    go : (b : Bool) → (T b → ⊥) → if_true b m.rule ≡ none
    go true h = absurd (h tt)
    go false h = refl

left-out-same : (need : ℕ) (m n : Summary) → (m ≡ n) ⊎ (LeftOut need m × LeftOut need n) → rule_of need m ≡ rule_of need n
left-out-same need m n (inl e) = ap (rule_of need) e
left-out-same need m n (inr h) = left-out-none need m h.0 ∙ sym (left-out-none need n h.1)

pub left-out-admitted : (need : ℕ) (ms ns : List Summary) → SameButLeftOut need ms ns → map (rule_of need) ms ≡ map (rule_of need) ns
left-out-admitted need [] [] h = refl
left-out-admitted need [] (n ∷ ns) h = absurd h
left-out-admitted need (m ∷ ms) [] h = absurd h
left-out-admitted need (m ∷ ms) (n ∷ ns) h = ap₂ ◌∷◌ (left-out-same need m n h.0) (left-out-admitted need ms ns h.1)

-- "A summary left out has no say"
pub left-out-no-say : (b c : Book) → b.question ≡ c.question → b.need ≡ c.need → SameButLeftOut b.need b.summaries c.summaries
    → (a : Answered) → Right (admitted_of b) b.question a ↔ Right (admitted_of c) c.question a
left-out-no-say b c question need h = books-same b c question (λ n r e. subst (λ s. summary s n ≡ some r) same e, λ n r e. subst (λ s. summary s n ≡ some r) (sym same) e)
  where
    same : admitted_of b ≡ admitted_of c
    same = left-out-admitted b.need b.summaries c.summaries h ∙ ap (λ n. map (rule_of n) c.summaries) need
