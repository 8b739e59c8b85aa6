-- `checker::component::refill` meets its contract: the table is cleared of the weights before, where there are such, then filled.
use mathlib.Core.List.{List, []}
use Rattle.polynomials.specs.Polynomials.{Weight}
use Rattle.weights.specs.Table.{CellsAre, MarkedIs}
use Rattle.checker.specs.Working.{own_base, other_base, OthersStay}
use Rattle.checker.proofs.component.refill.Goals.{in-Some, in_default}
use Rattle.checker.proofs.component.refill.Goals as goal

pub clear-requires : goal.clear-requires
unfolding own_base
clear-requires c =
    let held = c.requires.some c.in-Some.before c.in-Some.is in
    record { weights = held.weights; stand = held.stand; held = held.kept }

pub fill-requires : goal.fill-requires
unfolding own_base
fill-requires c =
    let asked = c.requires in
    let none_held : CellsAre (own_base 87) c.match-before.table [] =
    elim c.match-before.branch [
      | in-Some w ↦ rw w.table-is w.clear.ensures.empty
      | in_default w ↦ rw w.table-is (asked.none w.in_default.is)
    ] in
    record { file = asked.file; empty = none_held; weights = asked.weights; stand = asked.stand }

pub returns : goal.returns
unfolding own_base other_base OthersStay
returns c =
    let filled = c.fill.ensures in
    let marked_stay : (ms : List Weight) → MarkedIs c.args.table.now ms → MarkedIs c.match-before.table ms =
    λ ms h. elim c.match-before.branch [
      | in-Some w ↦ rw w.table-is (w.clear.ensures.others ms h)
      | in_default w ↦ rw w.table-is h
    ] in
    record { ends = filled.ends; holds = filled.holds; marked_stay = λ ms h. filled.others ms (marked_stay ms h) }
