-- Each turn takes one line, or a part of one, and counts one pair at the most.
use Rattle.std.proofs.Common.{◌≤◌, length}
use Rattle.runs.specs.Runs.{total}
use Rattle.runs.proofs.check_lines.Given as goal

abbrev pub invariant-loop-taken : goal.invariant-loop-taken
invariant-loop-taken g l = record { within : l.to ≤ length l.window; counted : total l.t ≤ l._taken }
