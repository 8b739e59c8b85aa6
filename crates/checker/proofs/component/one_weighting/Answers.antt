-- `checker::component::one_weighting` meets its contract: under the weights that were judged just before, the rules hold as they did;
-- under others the table is filled anew and all rules are judged by it.
use mathlib.Core.Path.{◌≡◌, refl, sym, ◌∙◌}
use mathlib.Core.List.{List, []}
use Prim.Native.Nat.{ℕ, ◌+◌}
use native.Mathlib.Omega.{arith}
use lib.ListN.{length}
use Rattle.std.specs.Prelude.{Option, Some}
use Rattle.records.specs.declared.Refusal.TheVariants.{Heavy}
use Rattle.weights.specs.declared.Verdict.TheVariants.{Holds}
use Rattle.weights.specs.Table.{TableIs}
use Rattle.checker.specs.declared.component.Turn.{Turn}
use Rattle.checker.specs.Working.{is_over, rules_verdict, WeightsHeld, WeightsAgree, SameWeights, TurnAsked}
use Rattle.checker.proofs.Verdicts.{over_told}
use Rattle.checker.proofs.Tallies.{none_changed}
use Rattle.checker.proofs.Turns.{refused_not, still_held, still_hold, calls_there, judged, judged_over, known_now, numbers_now}
use Rattle.checker.proofs.component.one_weighting.Goals.{in_default-via-in-None-1, in_default-via-in-Some+in-None-1}
use Rattle.checker.proofs.component.one_weighting.Goals as goal

-- under the weights before
module _
    {cert : List ℕ} {at count from : ℕ} {before : Option ℕ} {rules after b : ℕ} {ar ss ns table lefts : List ℕ} {turn : Turn}
    (a : TurnAsked cert at count from before rules ar ss ns table lefts turn) (there : before ≡ Some b) (told : WeightsAgree cert b from after) where
  held : WeightsHeld a.present_asked.pairs_asked.asked.kept.system cert b table
  held = a.known.some b there

  run : SameWeights held.held.weights a.weighting.weights from after
  run = told.agree held.held.weights a.weighting.weights held.held.stand a.stands.weights_stand

  kept : TableIs table a.weighting.weights
  kept = still_held held run.same

  rules_hold : Holds ≡ rules_verdict a.present_asked.pairs_asked.asked.kept.system a.weighting.weights a.weighting.marked
  rules_hold = still_hold held run.same a.weighting.marked

pub same_weights-requires : goal.same_weights-requires
same_weights-requires c = c.requires.behind _ c.in-Some.is

pub overflow_add-at : goal.overflow_add-at
overflow_add-at c = omega (arith, c.requires.after_pairs)

pub judge_calls-requires : goal.judge_calls-requires
judge_calls-requires c =
    let a = c.requires in
    calls_there a (run a c.in-Some.is c.in-Some-same_weights.ensures).passed a.unmarked

pub returns : goal.returns
unfolding is_over
returns c =
    let there = c.in-Some.is in
    let told = c.in-Some-same_weights.ensures in
    let called = c.judge_calls.ensures in
    record {
      unmarked = called.unmarked;
      others = called.others;
      judged = λ a. judged a (run a there told).passed (rules_hold a there told) refl (kept a there told) called;
      known = λ a. known_now a (run a there told).passed (rules_hold a there told) refl (kept a there told) called;
      numbers = λ a. numbers_now a (run a there told).passed (rules_hold a there told) refl (kept a there told) called;
    }

-- under others
pub refill-middle-requires : goal.refill-middle-requires
refill-middle-requires c =
    let a = c.requires in
    let before_is : c.in_default.before ≡ c.args.before =
    elim c.in_default.branch [
      | in_default-via-in-None-1 w ↦ w.before-is
      | in_default-via-in-Some+in-None-1 w ↦ w.before-is ∙ sym w.in-Some.is
    ] in
    rw before_is
    (record {
      file = a.present_asked.pairs_asked.file;
      weights = a.weighting.weights;
      stand = a.stands.weights_stand;
      none = a.known.none;
      some = λ b h. (a.known.some b h).held;
    })

pub judge_rules-r-requires : goal.judge_rules-r-requires
judge_rules-r-requires c = c.requires.present_asked.pairs_asked.asked

pub returns-then-eq : goal.returns-then-eq
returns-then-eq c =
    let Asked : Type 0 =
    TurnAsked c.args.certificate.now c.args.at c.args.count c.args.from c.args.before c.args.pack.now.rules c.args.pack.now.arities c.args.pack.now.starts c.args.pack.now.nodes c.args.table.now c.args.lefts.now c.args.turn in
    let holds : (a : Asked) → TableIs c.refill-middle.new.table a.weighting.weights = λ a. c.refill-middle.ensures.holds a.weighting.weights a.stands.weights_stand in
    let rules_are : (a : Asked) → c.judge_rules-r.result ≡ rules_verdict a.present_asked.pairs_asked.asked.kept.system a.weighting.weights a.weighting.marked =
    λ a. c.judge_rules-r.ensures a.present_asked.pairs_asked.asked a.weighting.weights a.weighting.marked (holds a) in
    let over = over_told _ _ c.if-eq.ensures in
    record {
      unmarked = c.refill-middle.ensures.marked_stay [] c.requires.unmarked;
      others = none_changed _ _ _;
      judged = λ a. judged_over a (rules_are a) over;
      known = λ a. refused_not _ Heavy (judged_over a (rules_are a) over);
      numbers = λ a. refused_not _ Heavy (judged_over a (rules_are a) over);
    }

pub overflow_add-at-2 : goal.overflow_add-at-2
overflow_add-at-2 c = omega (arith, c.requires.after_pairs)

pub judge_calls-requires-2 : goal.judge_calls-requires-2
judge_calls-requires-2 c =
    let Asked : Type 0 =
    TurnAsked c.args.certificate.now c.args.at c.args.count c.args.from c.args.before c.args.pack.now.rules c.args.pack.now.arities c.args.pack.now.starts c.args.pack.now.nodes c.args.table.now c.args.lefts.now c.args.turn in
    let ends : (a : Asked) → c.refill-middle.result ≡ c.args.from + length a.weighting.weights = λ a. c.refill-middle.ensures.ends a.weighting.weights a.stands.weights_stand in
    let a = c.requires in
    calls_there a (ends a) (c.refill-middle.ensures.marked_stay [] a.unmarked)

pub returns-2 : goal.returns-2
returns-2 c =
    let Asked : Type 0 =
    TurnAsked c.args.certificate.now c.args.at c.args.count c.args.from c.args.before c.args.pack.now.rules c.args.pack.now.arities c.args.pack.now.starts c.args.pack.now.nodes c.args.table.now c.args.lefts.now c.args.turn in
    let holds : (a : Asked) → TableIs c.refill-middle.new.table a.weighting.weights = λ a. c.refill-middle.ensures.holds a.weighting.weights a.stands.weights_stand in
    let ends : (a : Asked) → c.refill-middle.result ≡ c.args.from + length a.weighting.weights = λ a. c.refill-middle.ensures.ends a.weighting.weights a.stands.weights_stand in
    let rules_are : (a : Asked) → c.judge_rules-r.result ≡ rules_verdict a.present_asked.pairs_asked.asked.kept.system a.weighting.weights a.weighting.marked =
    λ a. c.judge_rules-r.ensures a.present_asked.pairs_asked.asked a.weighting.weights a.weighting.marked (holds a) in
    let called = c.judge_calls-2.ensures in
    let none = over_told _ _ c.if-eq.ensures in
    record {
      unmarked = called.unmarked;
      others = called.others;
      judged = λ a. judged a (ends a) (rules_are a) none (holds a) called;
      known = λ a. known_now a (ends a) (rules_are a) none (holds a) called;
      numbers = λ a. numbers_now a (ends a) (rules_are a) none (holds a) called;
    }
