-- `text_reader::numbering::number_uses` meets its contract. The loop's invariant, `SoFar` of UsesSoFar.antt: the uses so far are numbered,
-- and no side's start was moved.
use mathlib.Core.Path.{◌≡◌}
use Rattle.text_reader.proofs.UsesSoFar.{SoFar}
use Rattle.text_reader.proofs.numbering.number_uses.Given as goal

abbrev pub invariant-loop-u : goal.invariant-loop-u
invariant-loop-u l =
    SoFar l.text l.table l.uses l.initial.names.symbols l.initial.pack.arities l.initial.names.variables l.initial.pack.nodes l.initial.now l.names.symbols l.pack.arities l.names.variables l.pack.nodes l.now l.u-index
    × (l.pack.starts ≡ l.initial.pack.starts)
