-- `weights::sums::cap` meets its contract.
use mathlib.Core.Path.{sym, ◌∙◌}
use Rattle.polynomials.specs.Limit.{limit}
use Rattle.weights.proofs.Adding.{cap_over, cap_not}
use Rattle.weights.proofs.sums.cap.Goals as goal

pub returns-then-passes : goal.returns-then-passes
unfolding limit
returns-then-passes c = cap_over _ (sym c.passes.ensures ∙ c.if-passes.true)

pub returns : goal.returns
returns c = cap_not _ (sym c.passes.ensures ∙ c.if-passes.false)
