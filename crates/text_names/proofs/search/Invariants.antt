-- `text_names::search` meets its contract. The loop's invariant: the names kept before lo are less, and none from hi on is.
use Prim.Native.Nat.{◌-◌, ◌≤◌}
use Rattle.text_tokens.specs.Told.{name_at}
use Rattle.text_names.proofs.Keeping.{LessBelow, NotFrom}
use Rattle.text_names.proofs.search.Given as goal

abbrev pub invariant-loop-lo : goal.invariant-loop-lo
invariant-loop-lo l =
    (l.lo ≤ l.hi) × (l.hi ≤ l.table.count) × LessBelow l.text l.table.names l.table.count (name_at l.text l.s) l.lo × NotFrom l.text l.table.names l.table.count (name_at l.text l.s) l.hi

abbrev pub decreases-loop-lo : goal.decreases-loop-lo
decreases-loop-lo l = l.hi - l.lo
