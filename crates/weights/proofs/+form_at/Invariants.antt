-- `weights::form_at` calls itself on fewer nodes, and once on as many, from the factor 0 with the factor 1: so twice the nodes up to
-- `end`, and one more under the factor 0, are its measure. The loop's invariant: the sums of now come to the term's polynomial
-- together with the arguments that are still to be weighed.
use mathlib.Core.Bool.{Bool}
use mathlib.Core.List.{List}
use Prim.Native.Nat.{ℕ, ◌+◌, ◌*◌, ◌-◌, ◌≤◌}
use Rattle.weights.specs.Sums.{Sums}
use Rattle.weights.specs.Working.{Weighable}
use Rattle.weights.proofs.Walking.{Unweighed}
use Rattle.weights.proofs.+form_at.Given as goal

abbrev pub decreases-form_at : goal.decreases-form_at
decreases-form_at l = 2 * (l.end - l.at) + (1 - l.factor)

-- what is known at the loop's head
pub record Underway
    (arities nodes table : List ℕ) (at end row factor : ℕ) (skips : Bool) (n : ℕ) (start sums : List ℕ) (next i : ℕ) : Type 0 where
  pub few : n ≤ 8
  pub begun : 1 ≤ i
  pub more : i ≤ n
  pub factor_some : 1 ≤ factor
  pub within : Sums sums
  pub unweighed :
      (w : Weighable arities nodes at (end - at)) → Unweighed arities nodes table at end w row factor skips n start sums next i

abbrev pub invariant-loop-i : goal.invariant-loop-i
invariant-loop-i l = Underway l.arities l.nodes l.table l.at l.end l.row l.factor l.skips l.n l.fn.sums l.sums l.next l.i
