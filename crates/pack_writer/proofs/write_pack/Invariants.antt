-- `pack_writer::write_pack` meets its contract. The loop's invariant: after the symbols' records those of the first i rules are written.
use mathlib.Core.Path.{◌≡◌}
use Prim.Native.Nat.{◌≤◌}
use lib.ListN.{length}
use Rattle.pack_writer.specs.Writing.{kept_rules, RecordsWritten}
use Rattle.pack_writer.proofs.write_pack.Given as goal

abbrev pub invariant-loop-i : goal.invariant-loop-i
invariant-loop-i l =
    (l.i ≤ l.pack.rules) × (length l.out ≡ length l.initial.out) × RecordsWritten l.initial.at (kept_rules l.pack.starts l.pack.nodes l.i) l.at l.initial.out l.out
