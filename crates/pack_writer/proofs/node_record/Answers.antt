-- `pack_writer::node_record` meets its contract: a byte below the first variable's is a symbol.
use borrow.Author.Tests.{lt-ltb, le-ltb}
use Rattle.pack_writer.specs.Writing.{byte_record}
use Rattle.pack_writer.proofs.node_record.Goals as goal

pub returns-then-code-lt-FIRST_VARIABLE : goal.returns-then-code-lt-FIRST_VARIABLE
unfolding byte_record
returns-then-code-lt-FIRST_VARIABLE c = rw (c.from.ensures, lt-ltb _ _ c.if-code-lt-FIRST_VARIABLE.true)

pub returns : goal.returns
unfolding byte_record
returns c = rw (c.from-2.ensures, le-ltb _ _ c.if-code-lt-FIRST_VARIABLE.false)
