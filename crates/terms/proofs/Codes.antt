-- Nodes one after the other, all of whose symbols a byte can tell.
use mathlib.Core.Path.{◌≡◌}
use mathlib.Core.Bool.{true}
use mathlib.Core.List.{List, [], ◌∷◌, ◌++◌}
use lib.Dec.{ltb}
use Rattle.rewriting.proofs.Basics.{and_left, and_right, and_both}
use Rattle.terms.specs.Sides.{Node, variable, symbol}
use Rattle.terms.specs.Kept.{symbols_room, symbols_below}

pub below_append : (ns ms : List Node) → symbols_below ns ≡ true → symbols_below ms ≡ true → symbols_below (ns ++ ms) ≡ true
unfolding symbols_below
below_append [] ms h k = k
below_append (variable v ∷ ns) ms h k = below_append ns ms h k
below_append (symbol f ∷ ns) ms h k =
    and_both (and_left (ltb f symbols_room) _ h) (below_append ns ms (and_right (ltb f symbols_room) _ h) k)
