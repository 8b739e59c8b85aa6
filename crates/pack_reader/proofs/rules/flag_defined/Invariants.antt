-- `pack_reader::rules::flag_defined` meets its contract. The loop's invariant: the flags are those of the rules passed.
use mathlib.Core.Path.{◌≡◌}
use lib.ListN.{length}
use Rattle.pack_reader.specs.Stored.{Flagged}
use Rattle.pack_reader.proofs.rules.flag_defined.Given as goal

abbrev pub invariant-loop-i : goal.invariant-loop-i
invariant-loop-i l = (length l.defined ≡ 64) × Flagged l.starts l.nodes l.i l.defined
