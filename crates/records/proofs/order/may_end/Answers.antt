-- `records::order::may_end` meets its contract: the columns of the two ends.
use Rattle.records.specs.Rows.{column_at}
use Rattle.records.proofs.order.may_end.Goals as goal

pub returns-in-Pack : goal.returns-in-Pack
unfolding column_at
returns-in-Pack c = rw c.in-Pack.is c.may_follow.ensures

pub returns-in-Certificate : goal.returns-in-Certificate
unfolding column_at
returns-in-Certificate c = rw c.in-Certificate.is c.may_follow-in-Certificate.ensures
