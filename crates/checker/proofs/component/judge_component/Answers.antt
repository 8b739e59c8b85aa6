-- `checker::component::judge_component` meets its contract: the C record tells how many weightings and pairs there are.
use mathlib.Core.Path.{◌≡◌, sym, ap, ◌∙◌, subst}
use mathlib.Core.List.{List}
use Prim.Native.Nat.{ℕ, ◌%◌}
use native.Mathlib.Omega.{arith}
use Rattle.std.specs.Prelude.{Option}
use Rattle.std.proofs.lemmas.Result.{err_from_is_err_and}
use Rattle.records.specs.declared.Record.{Record}
use Rattle.checker.specs.declared.component.Found.{Found}
use Rattle.polynomials.specs.Polynomials.{Weighting}
use Rattle.checker.specs.Working.{NumbersTell, ComponentAsked, UnweightedAsked, WeightedAsked}
use Rattle.checker.proofs.Positions.{no_weightings, weightings_read, pairs_read}
use Rattle.checker.proofs.Tallies.{none_changed}
use Rattle.checker.proofs.Known.{known_without}
use Rattle.checker.proofs.component.judge_component.Goals as goal

module _
    {cert : List ℕ} {at : ℕ} {r : Record} {first : ℕ} {before : Option ℕ} {rules : ℕ} {ar ss ns ms table lefts : List ℕ} (a : ComponentAsked cert at r first before rules ar ss ns ms table lefts) where
  abbrev without : r.b ≡ 0 → UnweightedAsked cert at rules ar ss ns ms
  without h = record { there = a.there; kept = a.kept; fits = a.fits; none = sym (weightings_read a.there.stands a.read) ∙ h }

  abbrev with_some : (r.b ≡ 0 → ⊥) → WeightedAsked cert at r.c (r.b % 256) first before rules ar ss ns table lefts
  with_some some =
      let b = weightings_read a.there.stands a.read in
      let few = a.fits.few in
      record {
        there = a.there;
        asked = record { flags = ms; kept = a.kept };
        fits = a.fits;
        unmarked = a.unmarked;
        known = a.known;
        counted = pairs_read a.there.stands a.read;
        weightings_are = omega arith;
        some = omega arith;
        all_present = a.all_present;
      }

  -- without one all pairs are present still, and have left under none
  without_told : r.b ≡ 0 → NumbersTell a.kept.system a.there.component.weightings a.there.component.pairs first lefts
  without_told h = subst (λ (ws : List Weighting). NumbersTell a.kept.system ws a.there.component.pairs first lefts) (sym (no_weightings _ (without h).none)) a.all_present

pub unweighted-requires : goal.unweighted-requires
unweighted-requires c = without c.requires c.if-header-eq0.true

pub returns-in_err-next : goal.returns-in_err-next
returns-in_err-next c =
    let h = c.if-header-eq0.true in
    let p = err_from_is_err_and c.from_residual.result c.from_residual.ensures.1 in
    rw (p.1, p.2)
    (record {
      unmarked = c.requires.unmarked;
      others = λ a. none_changed _ _ _;
      judged = λ a. c.in_err-next.ensures (without a h);
      known = λ a f is. cc;
      numbers = λ a _. without_told a h;
    })

pub returns-then-header-eq0 : goal.returns-then-header-eq0
returns-then-header-eq0 c =
    let h = c.if-header-eq0.true in
    record {
      unmarked = c.requires.unmarked;
      others = λ a. none_changed _ _ _;
      judged = λ a. c.in_ok-next.ensures (without a h);
      known = λ a f is.
          let same : ◌≡◌ {A = Found} (record { next = c.in_ok-next.next; weights = c.args.before }) f = cc in
          let weights : c.args.before ≡ f.weights = ap (λ (x : Found). x.weights) same in
          rw (← weights) (known_without a.there.component a.known);
      numbers = λ a _. without_told a h;
    }

pub weighted-requires : goal.weighted-requires
weighted-requires c = rw c.from.ensures (with_some c.requires c.if-header-eq0.false)

pub returns : goal.returns
returns c =
    let some = c.if-header-eq0.false in
    let told = rw c.from.ensures at c.weighted.ensures in
    record {
      unmarked = told.unmarked;
      others = λ a. rw (pairs_read a.there.stands a.read) told.others;
      judged = λ a. told.judged (with_some a some);
      known = λ a. told.known (with_some a some);
      numbers = λ a h. told.numbers (with_some a some) h;
    }
