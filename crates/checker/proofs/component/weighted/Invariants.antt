-- `checker::component::weighted` meets its contract. The loop's invariant: the weightings before number `number` have passed, and what is
-- known then of the others and of the numbers.
use mathlib.Core.List.{[]}
use Prim.Native.Nat.{◌+◌}
use Rattle.weights.specs.Table.{MarkedIs}
use Rattle.checker.specs.Working.{OthersAsBefore, WeightedAsked}
use Rattle.checker.proofs.Weightings.{SoFar}
use Rattle.checker.proofs.component.weighted.Given as goal

abbrev pub invariant-loop-number : goal.invariant-loop-number
invariant-loop-number l =
    MarkedIs l.table []
    × OthersAsBefore l.first (l.first + l.count) l.initial.lefts l.lefts
    × ((a : WeightedAsked l.certificate l.at l.count l.weightings l.first l.fn.before l.pack.rules l.pack.arities l.pack.starts l.pack.nodes l.initial.table l.initial.lefts) → SoFar a l.number l.from l.weights l.table l.lefts)
