-- `text_tokens::same_name` meets its contract. The loop's invariant: the names are the same where what is left of them is.
use mathlib.Core.Path.{◌≡◌}
use Prim.Native.Nat.{◌+◌, ◌-◌, ◌≤◌}
use lib.ListN.{length}
use Rattle.texts.specs.Spelling.{same}
use Rattle.text_tokens.specs.Told.{name_at}
use Rattle.text_tokens.proofs.same_name.Given as goal

abbrev pub invariant-loop-c : goal.invariant-loop-c
invariant-loop-c l =
    (l.i ≤ 32768) × (same (name_at l.text l.a) (name_at l.text l.b) ≡ same (name_at l.text (l.a + l.i)) (name_at l.text (l.b + l.i)))

abbrev pub decreases-loop-c : goal.decreases-loop-c
decreases-loop-c l = length l.text - (l.a + l.i)
