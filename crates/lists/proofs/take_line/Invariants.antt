-- The window and the line hold what is counted, and each turn takes one byte.
use Rattle.std.proofs.Common.{◌≤◌, length}
use Rattle.lists.proofs.Taking.{SoFar}
use Rattle.lists.proofs.take_line.Given as goal

abbrev pub invariant-loop-bytes : goal.invariant-loop-bytes
invariant-loop-bytes g l =
    record {
      within : l.to ≤ length l.window;
      ends_within : l.end ≤ length l.fn.window;
      so_far : SoFar l.ends l.fn.window l.at l.end l.window l.line l.from l.to l.bytes;
    }
