-- `checker::weighing::judge_rules` meets its contract. The loop's invariant: the rules from rule i on are left to judge.
use mathlib.Core.Path.{◌≡◌, refl, ap, ◌∙◌}
use mathlib.Core.Bool.{Bool, true, false, not, cond}
use mathlib.Core.List.{List, [], ◌∷◌}
use Prim.Native.Nat.{ℕ, ◌+◌, ◌*◌, ◌-◌, ◌≤◌, ◌<◌}
use native.Mathlib.Numerals.{add-one}
use native.Mathlib.Omega.{arith}
use lib.ListN.{get_or, drop, drop_of_length-le}
use lib.Seq.{drop-cons}
use Rattle.rewriting.proofs.Basics.{by_test}
use Rattle.rewriting.specs.Terms.{System, rule, no_rule}
use Rattle.weights.specs.declared.Verdict.{Verdict}
use Rattle.weights.specs.declared.Verdict.TheVariants.{Over, Fails, Holds}
use Rattle.polynomials.specs.Polynomials.{Weight, Weighting}
use Rattle.polynomials.specs.Judging.{rule_over, rule_rises}
use Rattle.weights.specs.Working.{Weighable, verdict}
use Rattle.checker.specs.Working.{fails, rules_verdict, RulesAsked}
use Rattle.checker.proofs.FromStore.{weighting, left_weighable, right_weighable, rule_answer}
use Rattle.checker.proofs.Verdicts.{ToJudge, rules_hold, rules_asked, none_judged, some_failed, none_failed, one_over, one_fails, one_holds}
use Rattle.checker.proofs.weighing.judge_rules.Invariants.{RulesLeft}
use Rattle.checker.proofs.weighing.judge_rules.Goals.{in-Fails, in-Holds}
use Rattle.checker.proofs.weighing.judge_rules.Goals as goal

module _
    {rules : ℕ} {ar ss ns : List ℕ} (a : RulesAsked rules ar ss ns) (ws vs : List Weight) (i : ℕ) {failed : Bool}
    (left : RulesLeft a.kept.system ws vs i failed) where
  abbrev p : System
  p = a.kept.system

  abbrev w : Weighting
  w = weighting ws vs

  -- at the end
  module _ (h : rules ≤ i) where
    none_left : ToJudge (rule_over w) (rules_hold w) p.rules [] failed
    none_left = rw (drop_of_length-le p.rules {i = i} (omega (arith, a.kept.stored.rules_are))) at left

    some_fails : failed ≡ true → Fails ≡ rules_verdict p ws vs
    unfolding rules_verdict
    some_fails = some_failed (rules_asked w) none_left

    all_hold : failed ≡ false → Holds ≡ rules_verdict p ws vs
    unfolding rules_verdict
    all_hold = none_failed (rules_asked w) none_left

  -- rule i is judged
  module _ (h : i < rules) {x : Verdict}
      (answer :
      (l : Weighable ar ns (get_or ss (2 * i) 0) (get_or ss (2 * i + 1) 0 - get_or ss (2 * i) 0))
      (m : Weighable ar ns (get_or ss (2 * i + 1) 0) (get_or ss (2 * i + 2) 0 - get_or ss (2 * i + 1) 0)) →
      x ≡ verdict (rule_over w (record { left = l.term; right = m.term })) (not (rule_rises w (record { left = l.term; right = m.term })))) where
    rule_left : ToJudge (rule_over w) (rules_hold w) p.rules (rule p i ∷ drop (i + 1) p.rules) failed
    unfolding rule
    rule_left = rw add-one (rw (drop-cons p.rules i no_rule (omega (arith, a.kept.stored.rules_are))) at left)

    is : x ≡ verdict (rule_over w (rule p i)) (not (rule_rises w (rule p i)))
    is = rule_answer a.kept.stored i h ws vs answer

    rule_over_limit : x ≡ Over → Over ≡ rules_verdict p ws vs
    unfolding rules_verdict
    rule_over_limit = one_over (rules_asked w) rule_left is

    rule_fails : x ≡ Fails → RulesLeft p ws vs (i + 1) true
    rule_fails = one_fails (rules_asked w) rule_left is

    rule_holds : x ≡ Holds → RulesLeft p ws vs (i + 1) failed
    rule_holds = one_holds (rules_asked w) rule_left is

pub loop-i-init : goal.loop-i-init
unfolding fails
loop-i-init c = (refl, λ a ws vs t. none_judged _ _ _)

pub bounds-pack-i : goal.bounds-pack-i
bounds-pack-i c = omega (arith, c.requires.kept.arrays.laid)

pub bounds-pack-i-in-loop-i : goal.bounds-pack-i-in-loop-i
bounds-pack-i-in-loop-i c = omega (arith, c.requires.kept.arrays.laid)

pub bounds-pack-i-in-loop-i-2 : goal.bounds-pack-i-in-loop-i-2
bounds-pack-i-in-loop-i-2 c = omega (arith, c.requires.kept.arrays.laid)

pub judge_rule-requires : goal.judge_rule-requires
judge_rule-requires c =
    let i = c.loop-i.i in
    let kept = c.requires.kept in
    let s = kept.stored in
    let h = c.loop-i-test.true in
    rw (c.from-left.ensures, c.from-right.ensures, c.from-end.ensures) (kept.arrays.nodes_long, left_weighable s i h, right_weighable s i h)

pub returns-in-Over : goal.returns-in-Over
returns-in-Over c =
    let l = c.loop-i in
    let said = rw (c.from-left.ensures, c.from-right.ensures, c.from-end.ensures) at c.judge_rule.ensures in
    λ a ws vs t.
    rule_over_limit a ws vs l.i (l.invariant.1 a ws vs t) c.loop-i-test.true
    (λ x y. said x y ws vs t)
    c.in-Over.is

pub loop-i-preserved : goal.loop-i-preserved
unfolding fails
loop-i-preserved c =
    let l = c.loop-i in
    let h = c.loop-i-test.true in
    let said = rw (c.from-left.ensures, c.from-right.ensures, c.from-end.ensures) at c.judge_rule.ensures in
    elim c.match-judge_rule.branch [
      | in-Fails z ↦
          rw z.found-is
          (refl, λ a ws vs t. rule_fails a ws vs l.i (l.invariant.1 a ws vs t) h (λ x y. said x y ws vs t) z.in-Fails.is)
      | in-Holds z ↦
          rw z.found-is
          (l.invariant.0, λ a ws vs t. rule_holds a ws vs l.i (l.invariant.1 a ws vs t) h (λ x y. said x y ws vs t) z.in-Holds.is)
    ]

pub returns : goal.returns
returns c =
    let l = c.loop-i in
    λ a ws vs t.
    let left = l.invariant.1 a ws vs t in
    let past = c.loop-i-test.false in
    l.invariant.0
    ∙ by_test (fails l.found)
    (λ e. ap (λ (b : Bool). cond b Fails Holds) e ∙ some_fails a ws vs l.i left past e)
    (λ e. ap (λ (b : Bool). cond b Fails Holds) e ∙ all_hold a ws vs l.i left past e)
