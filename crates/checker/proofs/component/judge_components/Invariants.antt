-- `checker::component::judge_components` meets its contract. The loop's invariant: the records of the components from component i on
-- stand from record `at` on, their number is the number of all, what is known of the rules under the last weights, and what the numbers
-- of the pairs before them tell.
use mathlib.Core.List.{[]}
use Rattle.weights.specs.Table.{MarkedIs}
use Rattle.checker.specs.Working.{ComponentsAsked}
use Rattle.checker.proofs.Components.{Left}
use Rattle.checker.proofs.component.judge_components.Given as goal

abbrev pub invariant-loop-i : goal.invariant-loop-i
invariant-loop-i l =
    MarkedIs l.table []
    × ((a : ComponentsAsked l.certificate l.components l.pack.rules l.pack.arities l.pack.starts l.pack.nodes l.pack.defined l.initial.lefts) → Left a l.at l.first l._i l.before l.table l.lefts)
