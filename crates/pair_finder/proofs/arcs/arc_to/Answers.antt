-- `pair_finder::arcs::arc_to` meets its contract: no arc runs where document 01's does not, and where that runs what meets decides.
use mathlib.Core.Path.{sym, ◌∙◌}
use Rattle.pair_finder.proofs.Asked.{not_reached}
use Rattle.pair_finder.proofs.arcs.arc_to.Goals as goal

pub reaches_to-requires : goal.reaches_to-requires
reaches_to-requires c = c.requires

pub returns-else-reaches_to : goal.returns-else-reaches_to
returns-else-reaches_to c =
    λ a. c.if-reaches_to.false ∙ sym (not_reached _ _ _ _ _ _ a (sym (c.reaches_to.ensures a) ∙ c.if-reaches_to.false))

pub agrees_to-requires : goal.agrees_to-requires
agrees_to-requires c =
    let asked = c.requires in
    record { ended = asked; reached = sym (c.reaches_to.ensures asked.asked) ∙ c.if-reaches_to.true }

pub returns-then-reaches_to : goal.returns-then-reaches_to
returns-then-reaches_to c =
    λ a. let asked = c.requires in
    c.agrees_to.ensures
    (record { ended = record { asked = a; ends = asked.ends }; reached = sym (c.reaches_to.ensures a) ∙ c.if-reaches_to.true })
