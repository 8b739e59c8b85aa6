-- `weights::judging::marked_side` meets its contract.
use native.Mathlib.Omega.{arith}
use Rattle.weights.specs.Working.{SideSummed}
use Rattle.weights.proofs.Arguments.{node_within, root_symbol}
use Rattle.weights.proofs.Walking.{applied_low, marked_row_is}
use Rattle.weights.proofs.Verdicts.{application_summed, no_sums}
use Rattle.weights.proofs.judging.marked_side.Goals as goal

pub bounds-nodes-at : goal.bounds-nodes-at
bounds-nodes-at c = omega (arith, c.requires.0, (node_within _ _ _ _ c.requires.1.side).0)

pub form_at-requires : goal.form_at-requires
form_at-requires c =
    let low = applied_low _ _ _ _ c.requires.1 in
    (c.requires.1.side, low, omega (arith, c.row-row.ensures, low), omega arith, rw c.requires.2 no_sums, c.requires.0)

pub returns : goal.returns
unfolding SideSummed
returns c =
    let low = applied_low _ _ _ _ c.requires.1 in
    let e = c.form_at.ensures in record {
      side_summed = λ w ws ms t m known.
          let below = root_symbol _ _ _ _ w.side low in
          application_summed ms ws w.side.term _ below.arguments below.applied _
          (rw (← c.requires.2)
          (e.means w.side ms ws (marked_row_is _ _ _ (rw c.from.ensures at c.row-row.ensures) low ms m) t
          (record { below = known; itself = λ _ h. absurd (omega arith) })));
      long = e.bounded.0;
    }
