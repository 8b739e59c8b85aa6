-- `entries::numbered` meets its contract: C begins the next component.
use mathlib.Core.Path.{refl}
use native.Mathlib.Omega.{arith}
use borrow.Author.Tests.{eq-eqb, ne_eqb}
use Rattle.records.specs.Order.{c_component}
use Rattle.entries.specs.Entries.{numbered}
use Rattle.entries.proofs.numbered.Goals as goal

pub returns-then-r-eq67 : goal.returns-then-r-eq67
unfolding numbered
returns-then-r-eq67 c = rw (eq-eqb c.args.r.kind c_component c.if-r-eq67.true) (omega arith)

pub returns : goal.returns
unfolding numbered
returns c = rw (ne_eqb c.args.r.kind c_component c.if-r-eq67.false) refl
