-- `pair_finder::arcs::agrees` meets its contract. The loop's invariant: the answer is that of the meetings still to come.
use Prim.Native.Nat.{◌-◌}
use Rattle.pair_finder.specs.Walking.{MeetingAt}
use Rattle.pair_finder.proofs.Agreeing.{ToAgree}
use Rattle.pair_finder.proofs.arcs.agrees.Given as goal

abbrev pub invariant-loop-met : goal.invariant-loop-met
invariant-loop-met l =
    (m : MeetingAt l.pack.arities.now l.pack.defined.now l.pack.nodes.now l.at l.variable l.u l.end l.v) → ToAgree l.pack.arities.now l.pack.defined.now l.pack.nodes.now l.at l.variable l.u l.end l.v m l.i l.k

abbrev pub decreases-loop-met : goal.decreases-loop-met
decreases-loop-met l = l.end - l.i
