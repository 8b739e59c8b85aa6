-- `pair_finder::arcs::arc_from` meets its contract, as `arc_to` does, with the end of the right side looked for first.
use mathlib.Core.Path.{sym, ◌∙◌}
use native.Mathlib.Omega.{arith}
use Rattle.pair_finder.proofs.Asked.{right_at, not_reached}
use Rattle.pair_finder.proofs.arcs.arc_from.Goals as goal

pub skip-end-requires : goal.skip-end-requires
skip-end-requires c =
    let asked = c.requires in
    let arrays = asked.kept.arrays in
    (arrays.arities_long, omega (arith, arrays.nodes_long), right_at _ _ _ _ _ _ asked)

pub reaches_to-requires : goal.reaches_to-requires
reaches_to-requires c = record { asked = c.requires; ends = c.skip-end.ensures }

pub returns-else-reaches_to : goal.returns-else-reaches_to
returns-else-reaches_to c =
    λ a. c.if-reaches_to.false ∙ sym (not_reached _ _ _ _ _ _ a (sym (c.reaches_to.ensures a) ∙ c.if-reaches_to.false))

pub agrees_to-requires : goal.agrees_to-requires
agrees_to-requires c =
    let a = c.requires in
    record { ended = record { asked = a; ends = c.skip-end.ensures }; reached = sym (c.reaches_to.ensures a) ∙ c.if-reaches_to.true }

pub returns-then-reaches_to : goal.returns-then-reaches_to
returns-then-reaches_to c =
    λ a. c.agrees_to.ensures
    (record {
      ended = record { asked = a; ends = c.skip-end.ensures };
      reached = sym (c.reaches_to.ensures a) ∙ c.if-reaches_to.true;
    })
