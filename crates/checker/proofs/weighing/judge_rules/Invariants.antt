-- `checker::weighing::judge_rules` meets its contract. The loop's invariant: the rules from rule i on are left to judge.
use mathlib.Core.Path.{◌≡◌}
use mathlib.Core.Bool.{Bool, cond}
use mathlib.Core.List.{List}
use Prim.Native.Nat.{ℕ}
use lib.ListN.{drop}
use Rattle.rewriting.specs.Terms.{System}
use Rattle.polynomials.specs.Polynomials.{Weight}
use Rattle.polynomials.specs.Judging.{rule_over}
use Rattle.weights.specs.Table.{TableIs}
use Rattle.weights.specs.declared.Verdict.TheVariants.{Fails, Holds}
use Rattle.checker.specs.Working.{fails, RulesAsked}
use Rattle.checker.proofs.FromStore.{weighting}
use Rattle.checker.proofs.Verdicts.{ToJudge, rules_hold}
use Rattle.checker.proofs.weighing.judge_rules.Given as goal

-- rules from rule i on are left to judge
abbrev pub RulesLeft : System → (weights marked : List Weight) → (i : ℕ) → (failed : Bool) → Type 0
RulesLeft p ws vs i failed = ToJudge (rule_over (weighting ws vs)) (rules_hold (weighting ws vs)) p.rules (drop i p.rules) failed

abbrev pub invariant-loop-i : goal.invariant-loop-i
invariant-loop-i l =
    (l.found ≡ cond (fails l.found) Fails Holds)
    × ((a : RulesAsked l.pack.rules l.pack.arities l.pack.starts l.pack.nodes) (ws vs : List Weight) → TableIs l.table ws → RulesLeft a.kept.system ws vs l.i (fails l.found))
