-- `pack_reader::nodes::read_nodes` meets its contract. The loop's invariant: some nodes were read and are kept, and the steps of
-- the records left, with these nodes before, are the steps of all.
use mathlib.Core.Path.{◌≡◌}
use mathlib.Core.List.{List}
use Prim.Native.Nat.{ℕ, ◌+◌, ◌-◌}
use lib.ListN.{length, take, drop}
use Rattle.records.specs.Outcomes.{Outcome, after}
use Rattle.records.specs.Records.{all_records}
use Rattle.records.specs.Rows.{row_number}
use Rattle.terms.specs.Sides.{Node}
use Rattle.terms.specs.Kept.{codes}
use Rattle.packs.proofs.Places.{Inside}
use Rattle.pack_reader.specs.Stored.{Run, node_steps, SameBefore}
use Rattle.pack_reader.proofs.NodeSteps.{with_nodes}
use Rattle.pack_reader.proofs.nodes.read_nodes.Given as goal

-- what the records from the j-th on come to
abbrev pub steps_left : (pack : List ℕ) (from count symbols last j : ℕ) → Outcome Run
steps_left pack from count symbols last j = node_steps symbols last (count - j) (drop (from + j) (all_records pack))

-- THE INVARIANT

pub record SoFar (pack : List ℕ) (from count symbols base : ℕ) (before now : List ℕ) (last j : ℕ) : Type 0 where
  pub read : List Node
  pub many : length read ≡ j
  pub goes_on : after (steps_left pack from count symbols last j) (with_nodes read) ≡ node_steps symbols 2 count (drop from (all_records pack))
  pub untouched : SameBefore base before now
  pub kept : take j (drop base now) ≡ codes read

abbrev pub invariant-loop-j : goal.invariant-loop-j
invariant-loop-j l =
    Inside (row_number l.last) × SoFar l.pack l.from l.count l.symbols l.base l.initial.nodes l.nodes (row_number l.last) l.j
