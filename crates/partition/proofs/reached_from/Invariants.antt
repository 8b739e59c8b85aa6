-- `partition::reached_from` meets its contract. The loop's invariant: no arc leads back to one of the rules from `first` up to s.
use Rattle.std.proofs.Common.{◌≡◌, ◌≤◌, false}
use Rattle.partition.specs.Working.{back_to, SearchAsked}
use Rattle.partition.proofs.reached_from.Given as goal

abbrev pub invariant-loop-s : goal.invariant-loop-s
invariant-loop-s l =
    (l.first ≤ l.s) × (l.s ≤ l.pack.rules)
    × ((a : SearchAsked l.pack.rules l.pack.arities.now l.pack.starts.now l.pack.nodes.now l.pack.defined.now l.keys l.right l.end) →
    back_to a.asked.kept.system a.asked.lows l.own a.asked.pair l.first ≡ false → back_to a.asked.kept.system a.asked.lows l.own a.asked.pair l.s ≡ false)
