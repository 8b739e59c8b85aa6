-- `Record::from` meets its contract, field by field.
use mathlib.Core.Path.{refl}
use Rattle.records.specs.Records.{fields}
use Rattle.records.proofs.RecordFromU64.from.Goals as goal

pub returns : goal.returns
unfolding fields
returns c = refl
