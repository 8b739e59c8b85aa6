-- `text_names::hash` meets its contract. The loop's invariant: going on from h with what is left of the name comes to the name's hash.
use mathlib.Core.Path.{◌≡◌}
use Prim.Native.Nat.{◌<◌}
use Rattle.text_tokens.specs.Told.{name_at}
use Rattle.text_names.specs.Table.{hashes, hash_from, hash}
use Rattle.text_names.proofs.hash.Given as goal

abbrev pub invariant-loop-i : goal.invariant-loop-i
invariant-loop-i l = (l.h < hashes) × (hash_from l.h (name_at l.text l.i) ≡ hash (name_at l.text l.s))
