-- A record that is not of the kind wanted ends the reading there.
use Rattle.std.specs.Prelude.{Bool, true, false, List, ℕ, Option, None, Some}
use Rattle.records.specs.declared.Record.{Record}
use Rattle.records.specs.Records.{record_at}
use Rattle.records.specs.Order.{index, may_follow}

unfoldable pub if_wanted : Bool → Record → Option Record
if_wanted true r = Some r
if_wanted false r = None

-- the record that begins at byte i, if the table lets its kind stand there
unfoldable pub wanted_at : List ℕ → (i before due : ℕ) → (weighted : Bool) → Option Record
wanted_at bs i before due weighted =
    if_wanted (may_follow before (index (record_at bs i).kind) due weighted) (record_at bs i)
