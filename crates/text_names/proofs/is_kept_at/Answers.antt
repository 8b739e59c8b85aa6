-- `text_names::is_kept_at` meets its contract.
use borrow.Author.Tests.{lt-ltb, le-ltb}
use Rattle.text_names.specs.Table.{kept, is_kept_at}
use Rattle.text_names.proofs.is_kept_at.Goals as goal

pub returns-then-k-from : goal.returns-then-k-from
unfolding kept is_kept_at
returns-then-k-from c = rw (lt-ltb _ _ (rw c.from.ensures at c.if-k-from.true), ← c.from-then-k-from.ensures) c.same_name.ensures

pub returns-else-k-from : goal.returns-else-k-from
unfolding is_kept_at
returns-else-k-from c = rw (c.from.ensures, le-ltb _ _ (rw c.from.ensures at c.if-k-from.false))
