-- `pack_writer::write_symbols` meets its contract. The loop's invariant: the records of the first i symbols are written.
use mathlib.Core.Path.{◌≡◌}
use Prim.Native.Nat.{◌*◌, ◌≤◌}
use lib.ListN.{length, take}
use Rattle.packs.specs.Encoding.{symbol_records}
use Rattle.pack_writer.specs.Writing.{RecordsWritten}
use Rattle.pack_writer.proofs.write_symbols.Given as goal

abbrev pub invariant-loop-i : goal.invariant-loop-i
invariant-loop-i l =
    (l.i ≤ l.pack.symbols) × (length l.out ≡ length l.initial.out) × RecordsWritten 0 (symbol_records 0 (take l.i l.pack.arities)) (8 * l.i) l.initial.out l.out
