-- `pair_finder::arcs::all_agree` meets its contract. The loop's invariant: the answer is that of the meetings still to come.
use Prim.Native.Nat.{◌-◌}
use Rattle.pair_finder.specs.Walking.{Reaching}
use Rattle.pair_finder.proofs.Agreeing.{ToAgreeAll}
use Rattle.pair_finder.proofs.arcs.all_agree.Given as goal

abbrev pub invariant-loop-met : goal.invariant-loop-met
invariant-loop-met l =
    (w : Reaching l.pack.arities.now l.pack.defined.now l.pack.nodes.now l.u l.end l.v) → ToAgreeAll l.pack.arities.now l.pack.defined.now l.pack.nodes.now l.u l.end l.v w l.i l.k

abbrev pub decreases-loop-met : goal.decreases-loop-met
decreases-loop-met l = l.end - l.i
