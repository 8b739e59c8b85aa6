-- `partition::back_from` meets its contract. The loop's invariant: no arc leads back to one of the first s rules.
use Rattle.std.proofs.Common.{◌≡◌, ◌-◌, ◌≤◌, false}
use Rattle.partition.specs.Working.{back_to, BackAsked}
use Rattle.partition.proofs.back_from.Given as goal

abbrev pub invariant-loop-reached : goal.invariant-loop-reached
invariant-loop-reached l =
    (l.s ≤ l.pack.rules) × ((a : BackAsked l.pack.rules l.pack.arities.now l.pack.starts.now l.pack.nodes.now l.pack.defined.now l.keys l.roots l.right) → back_to a.kept.system a.lows l.own a.pair l.s ≡ false)

abbrev pub decreases-loop-reached : goal.decreases-loop-reached
decreases-loop-reached l = l.pack.rules - l.s
