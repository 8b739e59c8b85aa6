-- `partition::lowest_of_roots` meets its contract. The loop's invariant: no root's component is above one of the first s rules'.
use Rattle.std.proofs.Common.{◌≤◌}
use Rattle.partition.specs.Working.{Roots}
use Rattle.partition.proofs.lowest_of_roots.Given as goal

abbrev pub invariant-loop-s : goal.invariant-loop-s
invariant-loop-s l = (l.s ≤ l.pack.rules) × Roots l.s l.pack.starts.now l.pack.nodes.now l.lows l.roots
