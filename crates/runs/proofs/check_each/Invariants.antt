-- Each turn counts one pair.
use Rattle.std.proofs.Common.{◌≡◌}
use Rattle.runs.specs.Runs.{total}
use Rattle.runs.proofs.check_each.Given as goal

abbrev pub invariant-loop-i : goal.invariant-loop-i
invariant-loop-i l = total l.t ≡ l.i
