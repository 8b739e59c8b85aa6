-- `records::reader::wanted_in` meets its contract: the table is asked of the record's own kind.
use Rattle.records.specs.Wanted.{wanted_at, if_wanted}
use Rattle.records.proofs.reader.wanted_in.Goals as goal

pub returns-then-kind_may_follow : goal.returns-then-kind_may_follow
unfolding wanted_at if_wanted
returns-then-kind_may_follow c = rw (← c.record_at-r.ensures, ← c.kind_may_follow.ensures, c.if-kind_may_follow.true)

pub returns : goal.returns
unfolding wanted_at if_wanted
returns c = rw (← c.record_at-r.ensures, ← c.kind_may_follow.ensures, c.if-kind_may_follow.false)
