-- `pack_reader::nodes::node_code` meets its contract, test by test.
use Rattle.terms.specs.Kept.{code}
use Rattle.packs.specs.PackReading.{node_zeros, node_of}
use Rattle.pack_reader.specs.Stored.{node_outcome, coded}
use Rattle.pack_reader.proofs.Tests.{tests}
use Rattle.pack_reader.proofs.nodes.node_code.Goals as goal

pub returns-then-r-ne0 : goal.returns-then-r-ne0
unfolding node_outcome node_zeros node_of coded code
returns-then-r-ne0 c = search tests

pub returns-then-r-ne0-2 : goal.returns-then-r-ne0-2
unfolding node_outcome node_zeros node_of coded code
returns-then-r-ne0-2 c = search tests

pub returns-then-r-ne0-3 : goal.returns-then-r-ne0-3
unfolding node_outcome node_zeros node_of coded code
returns-then-r-ne0-3 c = search tests

pub returns-then-a-lt-MOST_VARIABLES : goal.returns-then-a-lt-MOST_VARIABLES
unfolding node_outcome node_zeros node_of coded code
returns-then-a-lt-MOST_VARIABLES c = search tests

pub returns-then-r-eq86 : goal.returns-then-r-eq86
unfolding node_outcome node_zeros node_of coded code
returns-then-r-eq86 c = search tests

pub returns-then-a-symbols : goal.returns-then-a-symbols
unfolding node_outcome node_zeros node_of coded code
returns-then-a-symbols c = search tests

pub returns : goal.returns
unfolding node_outcome node_zeros node_of coded code
returns c = search tests
