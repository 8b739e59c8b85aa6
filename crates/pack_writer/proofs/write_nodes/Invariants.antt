-- `pack_writer::write_nodes` meets its contract. The loop's invariant: the records of the first i nodes are written.
use mathlib.Core.Path.{◌≡◌}
use mathlib.Core.List.{map}
use Prim.Native.Nat.{◌+◌, ◌*◌, ◌≤◌}
use lib.ListN.{length}
use Rattle.terms.specs.Kept.{part}
use Rattle.pack_writer.specs.Writing.{byte_record, RecordsWritten}
use Rattle.pack_writer.proofs.write_nodes.Given as goal

abbrev pub invariant-loop-i : goal.invariant-loop-i
invariant-loop-i l =
    (l.from + l.i ≤ l.to) × (length l.out ≡ length l.initial.out) × RecordsWritten l.at (map byte_record (part l.pack.nodes l.from (l.from + l.i))) (l.at + 8 * l.i) l.initial.out l.out
