-- `pack_reader::sides::right_side` meets its contract. The loop's invariant: what is left is balanced for the terms still wanted
-- exactly if the whole is for one, and has only variables seen, with the nodes passed, exactly if the whole has.
use mathlib.Core.Path.{◌≡◌}
use mathlib.Core.Bool.{Bool, ◌&&◌}
use mathlib.Core.List.{List}
use Prim.Native.Nat.{ℕ}
use Rattle.terms.specs.Kept.{part}
use Rattle.pack_reader.specs.Stored.{all_seen}
use Rattle.pack_reader.proofs.OneSide.{Wanting}
use Rattle.pack_reader.proofs.sides.right_side.Given as goal

abbrev pub Closed : (sn : List Bool) (ns : List ℕ) (from to i : ℕ) → Bool → Type 0
Closed sn ns from to i b = (b && all_seen sn (part ns i to)) ≡ all_seen sn (part ns from to)

abbrev pub invariant-loop-i : goal.invariant-loop-i
invariant-loop-i l = Wanting l.arities l.nodes l.from l.to l.wanted l.i × Closed l.seen l.nodes l.from l.to l.i l.closed
