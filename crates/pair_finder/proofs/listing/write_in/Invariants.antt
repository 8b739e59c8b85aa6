-- `pair_finder::listing::write_in` meets its contract. The loop's invariant: the records of some pairs are written, and these with
-- the pairs at the places left are all pairs of the side.
use mathlib.Core.Path.{◌≡◌}
use mathlib.Core.List.{List, ◌++◌, map}
use Prim.Native.Nat.{ℕ, ◌≤◌}
use lib.ListN.{length}
use Rattle.rewriting.specs.Pairs.{Pair}
use Rattle.terms.specs.Kept.{part}
use Rattle.pairs.specs.Listing.{a_pair}
use Rattle.pair_finder.specs.Walking.{places, Written}
use Rattle.pair_finder.proofs.DefinedPlaces.{places_left}
use Rattle.pair_finder.proofs.listing.write_in.Given as goal

-- the pairs that are written, and that the others are those at the places left
pub record SoFar (at rule from to : ℕ) (nodes flags before : List ℕ) (next i : ℕ) (now : List ℕ) : Type 0 where
  pub done : List Pair
  pub others : done ++ map (a_pair rule) (places_left flags nodes from i to) ≡ map (a_pair rule) (places flags 0 (part nodes from to))
  pub written : Written at done next before now

abbrev pub invariant-loop-i : goal.invariant-loop-i
invariant-loop-i l =
    (l.from ≤ l.i) × (l.i ≤ l.to) × (length l.list ≡ length l.initial.list) × SoFar l.at l.rule l.from l.to l.pack.nodes.now l.pack.defined.now l.initial.list l.next l.i l.list
