-- `checker::weighing::clear` meets its contract: 0 is put into the cell of each weight that stands there, and it held no others.
use mathlib.Core.Bool.{true}
use Rattle.checker.specs.Working.{own_base}
use Rattle.checker.proofs.Tables.{bases_small, all_cleared, all_others}
use Rattle.checker.proofs.Runs.{fillable_small}
use Rattle.checker.proofs.weighing.clear.Goals as goal

pub put_all-requires : goal.put_all-requires
put_all-requires c = record { weights = c.requires.weights; stand = c.requires.stand }

pub returns : goal.returns
returns c =
    let kind = c.args.kind in
    let base = own_base kind in
    let asked = c.requires in
    let small = fillable_small asked.stand.fillable in
    rw (c.put_all.ensures.are asked.weights asked.stand)
    (record {
      empty = all_cleared base (bases_small kind).0 asked.weights c.args.table.now asked.held asked.stand.fillable.rise small;
      others = all_others kind true asked.weights c.args.table.now small;
    })
