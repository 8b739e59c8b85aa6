-- `entries::enter_all` meets its contract. The loop's invariant: the entries have the pairs of the records passed.
use Rattle.std.proofs.Common.{◌≡◌, ◌/◌, ◌≤◌, length}
use Rattle.entries.proofs.Entering.{SoFar}
use Rattle.entries.proofs.enter_all.Given as goal

abbrev pub invariant-loop-i : goal.invariant-loop-i
invariant-loop-i l =
    (l.i ≤ length l.certificate / 8) × (l.number ≤ l.i) × (l.count ≤ l.i) × (length l.entries ≡ 2048) × SoFar l.certificate l.i l.number l.count l.entries
