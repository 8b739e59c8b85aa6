-- `partition::back_from_entry` meets its contract: the entry's pair is kept at its place of its rule's right side.
use Rattle.std.proofs.Common.{arith}
use Rattle.partition.specs.Working.{back_at}
use Rattle.partition.proofs.Keys.{of_entry, entry_rule}
use Rattle.partition.proofs.back_from_entry.Goals as goal

pub bounds-pack-from : goal.bounds-pack-from
bounds-pack-from c = let laid = c.requires.kept.arrays.laid in omega (arith, entry_rule c.requires, laid.few, laid.starts_long)

pub back_from-requires : goal.back_from-requires
back_from-requires c = rw (c.from-2.ensures, c.from-3.ensures, c.from.ensures) (of_entry c.requires)

pub returns : goal.returns
unfolding back_at
returns c = λ a. (rw (c.from-2.ensures, c.from-3.ensures, c.from.ensures) at c.back_from.ensures) (of_entry a)
