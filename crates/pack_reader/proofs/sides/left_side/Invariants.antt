-- `pack_reader::sides::left_side` meets its contract. The loop's invariant: what is left is balanced for the terms still wanted
-- exactly if the whole is for one, and the variables seen are those of the nodes passed.
use mathlib.Core.Path.{◌≡◌}
use mathlib.Core.Bool.{Bool}
use mathlib.Core.List.{List}
use Prim.Native.Nat.{ℕ}
use lib.ListN.{length}
use Rattle.terms.specs.Kept.{part}
use Rattle.pack_reader.specs.Stored.{SeenIn}
use Rattle.pack_reader.proofs.OneSide.{Wanting}
use Rattle.pack_reader.proofs.sides.left_side.Given as goal

abbrev pub Flags : (ns : List ℕ) (from i : ℕ) → List Bool → Type 0
Flags ns from i sn = (length sn ≡ 16) × SeenIn (part ns from i) sn

abbrev pub invariant-loop-i : goal.invariant-loop-i
invariant-loop-i l = Wanting l.arities l.nodes l.from l.to l.wanted l.i × Flags l.nodes l.from l.i l.seen
