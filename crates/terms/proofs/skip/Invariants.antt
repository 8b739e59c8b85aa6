-- `terms::skip` meets its contract. The loop's invariant: an argument list of as many terms as are wanted is still to be
-- read, and it ends where the term ends.
use mathlib.Core.Path.{◌≡◌}
use mathlib.Core.List.{List}
use Prim.Native.Nat.{ℕ, ◌+◌, ◌*◌, ◌-◌, ◌≤◌}
use lib.ListN.{length}
use Rattle.rewriting.specs.Terms.{Tree}
use Rattle.terms.specs.Sides.{flat}
use Rattle.terms.specs.Kept.{TermAt}
use Rattle.terms.proofs.Rests.{Rest}
use Rattle.terms.proofs.skip.Given as goal

-- what is still to be read of a term that is kept at a place
pub record Left (arities nodes : List ℕ) (at : ℕ) (s : TermAt arities nodes at) (wanted i : ℕ) : Type 0 where
  pub rest : Tree
  pub is : Rest s.system nodes i wanted rest
  pub ends : i + length (flat rest) ≡ at + length (flat s.term)

abbrev pub invariant-loop-wanted : goal.invariant-loop-wanted
invariant-loop-wanted l =
    (l.at ≤ l.i) × (l.wanted ≤ 1 + 255 * (l.i - l.at)) × ((s : TermAt l.arities l.nodes l.at) → Left l.arities l.nodes l.at s l.wanted l.i)

abbrev pub decreases-loop-wanted : goal.decreases-loop-wanted
decreases-loop-wanted l = length l.nodes - l.i
