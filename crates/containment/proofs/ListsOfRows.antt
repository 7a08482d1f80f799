-- Theorem 2, first part: summary rows have their mapping back; more rows never lose the mapping there; a rewriting that maps back has rows for its image.
use mathlib.Core.Path.{◌≡◌, sym, subst}
use mathlib.Core.List.Memᴰ
use mathlib.Core.List.{List, map}
use Prim.Native.Nat.{ℕ}
use lib.ListN.{length, length-map}
use Rattle.spec.specs.Words.{◌∈◌, Term, var, con, Subgoal, Rule, Listed, becomes, each, Yields, Mapping}
use Rattle.spec.specs.Summaries.{Summaries, Yielded, SummaryRow, expansion, Equivalent, rewriting}
use Rattle.spec.specs.Answer.{FirstBack}
use Rattle.spec.proofs.Decided.WitnessExists.{maps-back}
use Rattle.containment.proofs.Carry.{contains, identity, terms-same, subgoal-same}
use Rattle.containment.proofs.Expand.{expansion-back, expansion-forth}
use Rattle.containment.proofs.Suit.{SuitAll, row-suits}

-- Each use of a rule's own expansion: the rule over what the summaries yield on its expansion's body.
pub own-yields : {X : Type 0} (s : Summaries) (r : Rule X) → SuitAll s r → Yields con r (Yielded con s (Listed (expansion s r).body)) (expansion s r).head
own-yields s r suits = expansion-back con s (Listed (expansion s r).body) r (expansion s r).head suits (identity (expansion s r))

-- A mapping between rules over summaries lifts to their expansions.
pub lift : {X Y : Type 0} (s : Summaries) (p : Rule X) (r : Rule Y) → SuitAll s r → Mapping p r → Mapping (expansion s p) (expansion s r)
lift s p r suits m = expansion-forth con s (Listed (expansion s r).body) p (expansion s r).head (contains m (own-yields s r suits))

-- Each of the list is a summary row.
abbrev pub AllRows : Summaries → Rule ℕ → List (Subgoal (Term ℕ)) → Type 0
AllRows s q l = (g : Subgoal (Term ℕ)) → g ∈ l → SummaryRow s q g

-- The mapping back is free.
pub rows_back : (s : Summaries) (q : Rule ℕ) (l : List (Subgoal (Term ℕ))) → AllRows s q l → Mapping (expansion s (rewriting q l)) q
rows_back s q l rows = expansion-forth con s (Listed q.body) (rewriting q l) q.head record {
  value = var;
  gives = terms-same q.head;
  holds = λ g m. subst (SummaryRow s q) (sym (subgoal-same g)) (rows g m);
}

-- So there is a witness back, and a first one.
pub rows-witness : (s : Summaries) (q : Rule ℕ) (l : List (Subgoal (Term ℕ))) → AllRows s q l → (bytes : List ℕ) × FirstBack s q (rewriting q l) bytes
rows-witness s q l rows = maps-back s q (rewriting q l) (rows_back s q l rows)

-- More rows keep the mapping there.
pub there-more : (s : Summaries) (q : Rule ℕ) (l m : List (Subgoal (Term ℕ))) → ((g : Subgoal (Term ℕ)) → g ∈ l → g ∈ m) → AllRows s q m
    → Mapping q (expansion s (rewriting q l)) → Mapping q (expansion s (rewriting q m))
there-more s q l m within rows there =
    contains there (lift s (rewriting q l) (rewriting q m) (λ g i. row-suits g (rows g i)) record { value = var; gives = terms-same q.head; holds = λ g i. Memᴰ.cast (subgoal-same g) (within g i) })

-- A rule whose subgoals all become summary rows, its head the question's head.
pub record Image {X : Type 0} (s : Summaries) (q : Rule ℕ) (p : Rule X) : Type 0 where
  pub list : List (Subgoal (Term ℕ))
  pub rows : AllRows s q list
  pub long : length list ≡ length p.body
  pub onto : Mapping p (rewriting q list)

pub image : {X : Type 0} (s : Summaries) (q : Rule ℕ) (p : Rule X) → Yields con p (SummaryRow s q) q.head → Image s q p
image s q p y = record {
  list = map (each (becomes con y.value)) p.body;
  rows = λ g m. let w = Memᴰ.of_map (each (becomes con y.value)) p.body m in subst (SummaryRow s q) w.2 (y.holds w.0 w.1);
  long = length-map p.body (each (becomes con y.value));
  onto = record { value = y.value; gives = y.gives; holds = λ g m. Memᴰ.map (each (becomes con y.value)) m };
}

-- The image of an equivalent rule: its list has the mapping there.
pub image-of : {X : Type 0} (s : Summaries) (q : Rule ℕ) (p : Rule X) → SuitAll s p → Equivalent s q p → (i : Image s q p) × Mapping q (expansion s (rewriting q i.list))
image-of s q p suits e =
    let i = image s q p (expansion-back con s (Listed q.body) p q.head suits e.back) in
    (i, contains e.there (lift s p (rewriting q i.list) (λ g m. row-suits g (i.rows g m)) i.onto))
