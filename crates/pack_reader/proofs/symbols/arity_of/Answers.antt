-- `pack_reader::symbols::arity_of` meets its contract, test by test.
use Rattle.pack_reader.specs.Stored.{arity_outcome}
use Rattle.pack_reader.proofs.Tests.{tests}
use Rattle.pack_reader.proofs.symbols.arity_of.Goals as goal

pub returns-then-r-ne0 : goal.returns-then-r-ne0
unfolding arity_outcome
returns-then-r-ne0 c = search tests

pub returns-then-r-ne0-2 : goal.returns-then-r-ne0-2
unfolding arity_outcome
returns-then-r-ne0-2 c = search tests

pub returns-then-from-i : goal.returns-then-from-i
unfolding arity_outcome
returns-then-from-i c = search tests

pub returns-then-i-ge-MOST_SYMBOLS : goal.returns-then-i-ge-MOST_SYMBOLS
unfolding arity_outcome
returns-then-i-ge-MOST_SYMBOLS c = search tests

pub returns-then-r-gt-MOST_ARITY : goal.returns-then-r-gt-MOST_ARITY
unfolding arity_outcome
returns-then-r-gt-MOST_ARITY c = search tests

pub returns : goal.returns
unfolding arity_outcome
returns c = search tests
