-- `text_reader::numbering::entry` meets its contract.
use borrow.Author.Rules.{rules}
use Rattle.text_reader.specs.Tables.{name_entry}
use Rattle.text_reader.proofs.numbering.entry.Goals as goal

pub returns : goal.returns
unfolding name_entry
returns c = search rules
