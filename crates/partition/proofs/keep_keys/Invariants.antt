-- `partition::keep_keys` meets its contract. The loop's invariant: the first s rules have their keys.
use Rattle.std.proofs.Common.{◌≤◌}
use Rattle.partition.specs.Working.{Keys}
use Rattle.partition.proofs.keep_keys.Given as goal

abbrev pub invariant-loop-s : goal.invariant-loop-s
invariant-loop-s l = (l.s ≤ l.pack.rules) × Keys l.s l.pack.starts.now l.pack.nodes.now l.lows l.keys
