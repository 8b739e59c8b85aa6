-- `text_names::less_name` meets its contract. The loop's invariant: the names are in order where what is left of them is.
use mathlib.Core.Path.{◌≡◌}
use Prim.Native.Nat.{◌+◌, ◌-◌, ◌≤◌}
use lib.ListN.{length}
use Rattle.text_tokens.specs.Told.{name_at}
use Rattle.text_names.specs.Table.{less}
use Rattle.text_names.proofs.less_name.Given as goal

abbrev pub invariant-loop-d : goal.invariant-loop-d
invariant-loop-d l =
    (l.i ≤ 32768) × (less (name_at l.text l.a) (name_at l.text l.b) ≡ less (name_at l.text (l.a + l.i)) (name_at l.text (l.b + l.i)))

abbrev pub decreases-loop-d : goal.decreases-loop-d
decreases-loop-d l = length l.text - (l.b + l.i)
