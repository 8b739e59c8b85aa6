-- `checker::weighing::store` meets its contract.
use mathlib.Core.Path.{ap, ◌∙◌}
use lib.ListN.{set}
use Rattle.checker.proofs.Tables.{plain_cell, marked_cell}
use Rattle.checker.proofs.weighing.store.Goals as goal

pub returns-then-r-eq87 : goal.returns-then-r-eq87
returns-then-r-eq87 c =
    let a = c.args in
    rw c.from-i.ensures at c.put.ensures ∙ ap (λ n. set a.table.now n a.value) (plain_cell a.r.kind a.r.a a.r.b c.if-r-eq87.true)

pub returns-else-r-eq87 : goal.returns-else-r-eq87
returns-else-r-eq87 c =
    let a = c.args in
    rw c.from-i.ensures at c.put-else-r-eq87.ensures ∙ ap (λ n. set a.table.now n a.value) (marked_cell a.r.kind a.r.a a.r.b c.if-r-eq87.false)
