-- `pack_writer::write_nodes` meets its contract. The loop's invariant: the records of the first i nodes are written.
use mathlib.Core.Path.{◌≡◌, refl, ◌∙◌}
use mathlib.Core.List.{List, ◌++◌, map, map-append}
use Prim.Native.Nat.{ℕ, ◌+◌, ◌*◌, ◌-◌, ◌≤◌, ◌<◌}
use native.Mathlib.Omega.{arith}
use lib.ListN.{length, get_or, take, drop}
use lib.Seq.{get_or-drop, get_or-take}
use Rattle.records.specs.declared.Record.{Record}
use Rattle.records.specs.Records.{record_bytes}
use Rattle.terms.specs.Kept.{part}
use Rattle.terms.proofs.Parts.{part_none}
use Rattle.pack_writer.specs.Writing.{byte_record, RecordsWritten}
use Rattle.pack_writer.proofs.InBuffer.{written_none, written_more}
use Rattle.pack_writer.proofs.FromArrays.{part_last, part_long}
use Rattle.pack_writer.proofs.write_nodes.Goals as goal

at_first : (at from : ℕ) (nodes o : List ℕ) → RecordsWritten at (map byte_record (part nodes from (from + 0))) (at + 0) o o
at_first at from nodes o =
    let e : from + 0 ≡ from = omega arith in
    let f : at + 0 ≡ at = omega arith in
    rw (e, f, part_none nodes from from (omega arith)) (written_none at o)

part_node : (nodes : List ℕ) (from to i : ℕ) → from + i < to → get_or (part nodes from to) i 0 ≡ get_or nodes (from + i) 0
unfolding part
part_node nodes from to i h = get_or-take (to - from) (drop from nodes) i 0 (omega arith) ∙ get_or-drop from nodes i 0

node_written : (at from to i : ℕ) (nodes o z y : List ℕ) → from + i < to → to ≤ length nodes → at + 8 * (to - from) ≤ length o
    → RecordsWritten at (map byte_record (part nodes from (from + i))) (at + 8 * i) o z
    → (r : Record) → r ≡ byte_record (get_or (part nodes from to) i 0) → y ≡ take (at + 8 * i) z ++ (record_bytes r ++ drop (at + 8 * i + 8) z)
    → RecordsWritten at (map byte_record (part nodes from (from + (i + 1)))) (at + 8 * (i + 1)) o y
node_written at from to i nodes o z y h within fits w r e is =
    let next : at + 8 * (i + 1) ≡ at + 8 * i + 8 = omega arith in
    let last : from + (i + 1) ≡ from + i + 1 = omega arith in
    let node = part_node nodes from to i h in
    rw (next, last, part_last nodes from (from + i) (omega arith) (omega arith), map-append byte_record (part nodes from (from + i)), ← node, ← e)
    (written_more at (at + 8 * i) (map byte_record (part nodes from (from + i))) o z w (omega arith) r y is)

pub loop-i-init : goal.loop-i-init
loop-i-init c = (omega (arith, c.requires.ordered), refl, at_first _ _ _ _)

pub loop-i-preserved : goal.loop-i-preserved
unfolding part
loop-i-preserved c =
    let l = c.loop-i in
    let g = c.args in
    let asked = c.requires in
    let long = part_long g.pack.now.nodes g.from g.to asked.within in
    let more : g.from + l.i < g.to = omega (arith, asked.ordered, long) in (
      omega (arith, more),
      c.write_record.auto.list ∙ l.invariant.1,
      node_written g.at g.from g.to l.i g.pack.now.nodes g.out.now l.out _ more asked.within asked.fits l.invariant.2 _ c.node_record.ensures c.write_record.ensures,
    )
