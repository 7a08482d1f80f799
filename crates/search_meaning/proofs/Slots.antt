-- The general law for a rule's subgoals as a source: its variables are slots 0 to 31.
use mathlib.Core.Path.{◌≡◌, refl, ap, ◌∙◌}
use mathlib.Core.Logic.{◌↔◌}
use mathlib.Core.Option.{some}
use mathlib.Core.List.{List}
use Prim.Native.Nat.{ℕ, suc, ◌<◌, ◌≤◌}
use native.Mathlib.Omega.{arith}
use Rattle.spec.specs.Words.{◌∈◌, Term, var, con, Subgoal}
use Rattle.spec.specs.Summaries.{place}
use Rattle.spec.proofs.Lists.Counted.{place_in}
use Rattle.codes.specs.Code.{slot_code}
use Rattle.task.specs.Mapped.{use_of, Mapped}
use Rattle.search_meaning.specs.Coded.{Coding, TermIn, task, Ready, Sent, OverTerms}
use Rattle.search_meaning.specs.Codings.{slot_naming, RuleSource}
use Rattle.search_meaning.proofs.OverTerms.{sent_is}

module _ {Y : Type 0} (c : Coding (Term Y)) (src : List (Subgoal (Term ℕ))) (lasts : List ℕ) (tgt : List (Subgoal (Term Y))) (own b : List ℕ) (r : RuleSource c src tgt own b) where
  named : (t : Term ℕ) → TermIn t src → slot_code t < 64 → var (slot_code t) ≡ t
  named (var x) i h = refl
  named (con k) i h = absurd (omega arith)

  apart : (i : ℕ) (g : Subgoal (Term ℕ)) → place src (suc i) ≡ some g → (t : Term ℕ) → t ∈ g.terms → 32 ≤ slot_code t → slot_code t < 64 → 0 ≡ use_of (task slot_naming c src lasts tgt own) i
  apart i g e (var x) m h o = let low : x < 32 = r.source (var x) (g, place_in src (suc i) e, m) in absurd (omega arith)
  apart i g e (con k) m h o = absurd (omega arith)

  kept : (t : Term ℕ) → TermIn t src → 64 ≤ slot_code t → c.code (c.read (slot_code t)) ≡ slot_code t
  kept (var x) i h = let low : x < 32 = r.source (var x) i in absurd (omega arith)
  kept (con k) i h = let w = r.constants k (r.source (con k) i) in ap c.code w.1 ∙ w.0

  pub slots-ready : Ready slot_naming c src lasts tgt own b
  slots-ready = record {
    room = r.room;
    alike = r.alike;
    rows = r.rows;
    known = r.target;
    named = named;
    shared = λ u w x h. refl;
    apart = apart;
    kept = kept;
    low = r.low;
    slot = λ x o. refl;
    given = r.given;
  }

  slots-terms : OverTerms slot_naming c (λ x. x) src b
  slots-terms = record {
    slots = λ x i. let low : x < 32 = r.source (var x) i in omega arith;
    constants = λ k i. omega arith;
    same = λ k i. (r.constants k (r.source (con k) i)).1;
    named = λ x o. refl;
  }

  -- The law.
  pub slots-sent : (l : List ℕ) → Mapped (task slot_naming c src lasts tgt own) b l ↔ Sent c (λ x. x) src tgt b l
  slots-sent = sent_is slot_naming c (λ x. x) src lasts tgt own b slots-ready slots-terms
