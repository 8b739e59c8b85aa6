-- `pair_finder::arcs::next_meeting` meets its contract. The loop's invariant: all that is met is met in what is still to be walked.
use Prim.Native.Nat.{◌-◌, ◌≤◌}
use Rattle.pairs.specs.Arcs.{meetings}
use Rattle.pair_finder.specs.Walking.{Reaching}
use Rattle.pair_finder.proofs.Walks.{ToWalk}
use Rattle.pair_finder.proofs.Gathering.{Met}
use Rattle.pair_finder.proofs.arcs.next_meeting.Given as goal

abbrev pub invariant-loop-i : goal.invariant-loop-i
invariant-loop-i l =
    (l.u ≤ l.i)
    × ((w : Reaching l.pack.arities.now l.pack.defined.now l.pack.nodes.now l.u l.end l.v) →
    ToWalk w.walk.system l.pack.arities.now l.pack.defined.now l.pack.nodes.now l.pack.nodes.now l.end (Met w.walk.system (meetings w.walk.system w.walk.first w.walk.other)) l.i l.k)

abbrev pub decreases-loop-i : goal.decreases-loop-i
decreases-loop-i l = l.end - l.i
