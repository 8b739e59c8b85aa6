-- `pair_finder::listing::write_pairs` meets its contract. The loop's invariant: the records of the first i rules' pairs are written.
use mathlib.Core.Path.{◌≡◌}
use Prim.Native.Nat.{◌≤◌}
use lib.ListN.{length}
use Rattle.pair_finder.specs.Walking.{first_pairs, Written}
use Rattle.pair_finder.proofs.listing.write_pairs.Given as goal

abbrev pub invariant-loop-i : goal.invariant-loop-i
invariant-loop-i l =
    (l.i ≤ l.pack.rules) × (length l.list ≡ length l.initial.list) × Written 0 (first_pairs l.pack.starts.now l.pack.nodes.now l.pack.defined.now l.i) l.at l.initial.list l.list
