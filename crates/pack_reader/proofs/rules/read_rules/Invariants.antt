-- `pack_reader::rules::read_rules` meets its contract. The loop's invariant, `SoFar` of RulesSoFar.antt: the rules read so far are
-- kept, and the records left come, after these rules, to what all come to.
use mathlib.Core.Path.{◌≡◌}
use Prim.Native.Nat.{◌*◌, ◌-◌, ◌/◌, ◌≤◌}
use lib.ListN.{length}
use Rattle.records.specs.Rows.{row_number}
use Rattle.pack_reader.proofs.RulesSoFar.{SoFar}
use Rattle.pack_reader.proofs.rules.read_rules.Given as goal

abbrev pub invariant-loop-at : goal.invariant-loop-at
invariant-loop-at l =
    (l.i ≤ 64) × (l.base ≤ 64 * l.i) × (length l.starts ≡ 129) × (length l.nodes ≡ 4096) × SoFar l.pack l.arities l.symbols l.starts l.nodes (row_number l.last) l.at l.base l.i

abbrev pub decreases-loop-at : goal.decreases-loop-at
decreases-loop-at l = length l.pack / 8 - l.at
