-- `pair_finder::arcs::may_meet` meets its contract. The loop's invariant: whatever two lists were asked about, two lists are still
-- to be compared, and the answer is theirs.
use Prim.Native.Nat.{◌-◌}
use Rattle.pairs.specs.Arcs.{may_meet}
use Rattle.pair_finder.specs.Walking.{Walkable}
use Rattle.pair_finder.proofs.Walks.{ToWalk}
use Rattle.pair_finder.proofs.Comparing.{Answered}
use Rattle.pair_finder.proofs.arcs.may_meet.Given as goal

abbrev pub invariant-loop-i : goal.invariant-loop-i
invariant-loop-i l =
    (w : Walkable l.pack.arities.now l.pack.defined.now l.pack.nodes.now l.pack.nodes.now l.u l.end l.v) →
    ToWalk w.system l.pack.arities.now l.pack.defined.now l.pack.nodes.now l.pack.nodes.now l.end (Answered l.both w.system (may_meet l.both w.system w.first w.other)) l.i l.k

abbrev pub decreases-loop-i : goal.decreases-loop-i
decreases-loop-i l = l.end - l.i
