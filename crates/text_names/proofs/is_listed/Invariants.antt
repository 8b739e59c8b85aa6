-- `text_names::is_listed` meets its contract. The loop's invariant: the name is listed where it is listed from place i on.
use mathlib.Core.Path.{◌≡◌}
use Prim.Native.Nat.{◌-◌, ◌≤◌}
use lib.ListN.{length}
use Rattle.texts.specs.Spelling.{among}
use Rattle.texts.specs.TextReading.{listed}
use Rattle.text_tokens.specs.Told.{name_at, tokens_at}
use Rattle.text_names.proofs.is_listed.Given as goal

abbrev pub invariant-loop-n : goal.invariant-loop-n
invariant-loop-n l =
    (l.i ≤ length l.text) × (among (name_at l.text l.s) (listed (tokens_at l.text l.at)) ≡ among (name_at l.text l.s) (listed (tokens_at l.text l.i)))

abbrev pub decreases-loop-n : goal.decreases-loop-n
decreases-loop-n l = length l.text - l.i
