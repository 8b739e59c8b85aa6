-- `checker::weighing::fill` meets its contract: each weight that stands there is put into its cell, which held nothing.
use mathlib.Core.Bool.{false}
use mathlib.Core.List.{[]}
use Rattle.checker.specs.Working.{own_base}
use Rattle.checker.proofs.Tables.{bases_small, all_filled, all_others}
use Rattle.checker.proofs.Runs.{fillable_small}
use Rattle.checker.proofs.weighing.fill.Goals as goal

pub put_all-requires : goal.put_all-requires
put_all-requires c = record { weights = c.requires.weights; stand = c.requires.stand }

pub returns : goal.returns
returns c =
    let kind = c.args.kind in
    let base = own_base kind in
    let put = c.put_all.ensures in
    let asked = c.requires in
    record {
      ends = put.ends;
      holds = λ ws a. rw (put.are ws a) (all_filled base (bases_small kind).0 ws [] c.args.table.now asked.empty a.fillable.rise (fillable_small a.fillable));
      others = rw (put.are asked.weights asked.stand) (all_others kind false asked.weights c.args.table.now (fillable_small asked.stand.fillable));
    }
