-- `pack_reader::rules::header` meets its contract, test by test.
use Rattle.packs.specs.PackReading.{side_count}
use Rattle.pack_reader.specs.Stored.{rule_header}
use Rattle.pack_reader.proofs.Tests.{tests}
use Rattle.pack_reader.proofs.rules.header.Goals as goal

pub returns-then-r-ne0 : goal.returns-then-r-ne0
unfolding rule_header side_count
returns-then-r-ne0 c = search tests

pub returns-then-from-i : goal.returns-then-from-i
unfolding rule_header side_count
returns-then-from-i c = search tests

pub returns-then-i-ge-MOST_RULES : goal.returns-then-i-ge-MOST_RULES
unfolding rule_header side_count
returns-then-i-ge-MOST_RULES c = search tests

pub returns-then-r-lt1 : goal.returns-then-r-lt1
unfolding rule_header side_count
returns-then-r-lt1 c = search tests

pub returns-then-r-gt-MOST_NODES : goal.returns-then-r-gt-MOST_NODES
unfolding rule_header side_count
returns-then-r-gt-MOST_NODES c = search tests

pub returns-then-r-lt1-2 : goal.returns-then-r-lt1-2
unfolding rule_header side_count
returns-then-r-lt1-2 c = search tests

pub returns-then-r-gt-MOST_NODES-2 : goal.returns-then-r-gt-MOST_NODES-2
unfolding rule_header side_count
returns-then-r-gt-MOST_NODES-2 c = search tests

pub returns : goal.returns
unfolding rule_header side_count
returns c = search tests
