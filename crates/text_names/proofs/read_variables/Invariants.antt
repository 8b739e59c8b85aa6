-- `text_names::read_variables` meets its contract. The loop's invariant: the names before place i are read, and the table holds them.
use Prim.Native.Nat.{◌-◌}
use lib.ListN.{length}
use Rattle.text_names.proofs.Listing.{ReadBefore}
use Rattle.text_names.proofs.read_variables.Given as goal

abbrev pub invariant-loop-s : goal.invariant-loop-s
invariant-loop-s l = ReadBefore l.text l.at l.table l.i

abbrev pub decreases-loop-s : goal.decreases-loop-s
decreases-loop-s l = length l.text - l.i
