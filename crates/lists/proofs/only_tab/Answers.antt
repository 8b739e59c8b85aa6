-- A first tab, and none after it.
use Rattle.std.proofs.Common.{arith}
use Rattle.lists.specs.Lists.{Splits}
use Rattle.lists.proofs.Tabbing.{no_tab, no_name, one_tab, bare, tab_behind, none_behind}
use Rattle.lists.proofs.only_tab.Goals as goal
use Rattle.lists.proofs.only_tab.Goals.{then-k-eq0-via-then-k-eq0, then-k-eq0-via-else-k-eq0+then-is_empty, then-k-eq0-via-else-k-eq0+else-is_empty+then-contains}

pub returns-in_err-k : goal.returns-in_err-k
unfolding Splits
returns-in_err-k c = rw c.from_residual.ensures (no_tab c.args.line.now c.in_err-k.ensures)

pub returns-then-k-eq0 : goal.returns-then-k-eq0
unfolding Splits
returns-then-k-eq0 c =
    let line = c.args.line.now in
    let f = c.in_ok-k.ensures in
    elim c.then-k-eq0.branch [
      | then-k-eq0-via-then-k-eq0 w ↦ no_name line _ f (λ before after. omega (arith, before, w.if-k-eq0.true))
      | then-k-eq0-via-else-k-eq0+then-is_empty w ↦ no_name line _ f (λ before after. bare line c.in_ok-k.k after w.if-is_empty.ensures)
      | then-k-eq0-via-else-k-eq0+else-is_empty+then-contains w ↦ tab_behind line c.in_ok-k.k f w.if-contains.ensures.cases
    ]

pub returns : goal.returns
unfolding Splits
returns c =
    let line = c.args.line.now in
    one_tab line _ c.in_ok-k.ensures (none_behind line c.in_ok-k.k c.if-contains.ensures.cases) (omega arith) (grind (arith, c.if-is_empty.ensures))
