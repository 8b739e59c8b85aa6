-- `weights::sums::add` meets its contract.
use mathlib.Core.Path.{sym, ◌∙◌}
use native.Mathlib.Omega.{arith}
use Rattle.weights.proofs.Adding.{limit_room, one_fits, one_over, one_within}
use Rattle.weights.proofs.sums.add.Goals as goal

pub overflow_add-s : goal.overflow_add-s
overflow_add-s c =
    let a = c.args in
    omega (arith, limit_room, one_fits a.sums.now a.i a.x c.requires.1 c.requires.0, c.requires.2)

pub returns-then-passes : goal.returns-then-passes
returns-then-passes c =
    let e = sym c.passes.ensures ∙ c.if-passes.true in
    rw c.set_over.ensures (one_over c.args.sums.now c.args.i c.args.x c.requires.1 c.requires.0 e)

pub returns-else-passes : goal.returns-else-passes
returns-else-passes c =
    one_within c.args.sums.now c.args.i c.args.x c.requires.1 c.requires.0 (sym c.passes.ensures ∙ c.if-passes.false)
