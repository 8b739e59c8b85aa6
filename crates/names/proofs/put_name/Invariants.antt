-- What stands before the byte c of the name is shown from `at` on.
use Rattle.std.proofs.Common.{◌+◌, ◌*◌, ◌≤◌, length}
use Rattle.names.proofs.Showing.{SoFar}
use Rattle.names.proofs.put_name.Given as goal

abbrev pub invariant-loop-c : goal.invariant-loop-c
invariant-loop-c l =
    record {
      within : l.end ≤ length l.out;
      told : l.at + 4 * length l.name ≤ length l.fn.out → SoFar l.name l.fn.out l.out l.at l.end l.c-index;
    }
