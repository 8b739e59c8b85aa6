-- `partition::back_from` meets its contract. The loop's invariant: no arc leads back to one of the first s rules.
use Rattle.std.proofs.Common.{sym, refl, arith}
use Rattle.pair_finder.proofs.Kept.{term_within}
use Rattle.partition.specs.Working.{back_to}
use Rattle.partition.proofs.Keys.{right_term, root_small, none_lower, found_next, none_found, found_reached, found_back, found_none}
use Rattle.partition.proofs.back_from.Goals as goal

pub bounds-pack-right : goal.bounds-pack-right
unfolding back_to
bounds-pack-right c = omega (arith, term_within _ _ _ (right_term c.requires))

pub bounds-roots-from : goal.bounds-roots-from
bounds-roots-from c = let a = c.requires in omega (arith, root_small a, a.keyed.roots_are.long)

pub returns-then-own-roots : goal.returns-then-own-roots
returns-then-own-roots c = λ a. sym (none_lower a c.args.own (rw c.from.ensures at c.if-own-roots.true))

pub skip-end-requires : goal.skip-end-requires
skip-end-requires c =
    let a = c.requires in
    (a.kept.arrays.arities_long, omega (arith, a.kept.arrays.nodes_long), right_term a)

pub loop-reached-init : goal.loop-reached-init
unfolding back_to
loop-reached-init c = (omega arith, λ a. refl)

pub reached_from-requires : goal.reached_from-requires
reached_from-requires c =
    let a = c.requires in
    (record { roots = _; asked = a; ends = c.skip-end.ensures }, c.loop-reached.invariant.0)

pub agrees_to-requires : goal.agrees_to-requires
agrees_to-requires c =
    let l = c.loop-reached in
    found_reached c.requires c.args.own _ c.skip-end.ensures l.s _ c.in-Some.ensures

pub returns-then-agrees_to : goal.returns-then-agrees_to
returns-then-agrees_to c =
    λ a.
    let l = c.loop-reached in
    let own = c.args.own in
    sym
    (found_back a own _ c.skip-end.ensures l.s _ c.in-Some.ensures _ c.agrees_to.ensures
    c.if-agrees_to.true)

pub overflow_add-s : goal.overflow_add-s
unfolding back_to
overflow_add-s c = let found = found_next c.requires c.args.own _ c.skip-end.ensures c.loop-reached.s _ c.in-Some.ensures in omega (arith, found.within)

pub loop-reached-smaller : goal.loop-reached-smaller
loop-reached-smaller c =
    let l = c.loop-reached in
    let f = found_next c.requires c.args.own _ c.skip-end.ensures l.s _ c.in-Some.ensures in
    omega (arith, f.later, f.within)

pub loop-reached-preserved : goal.loop-reached-preserved
loop-reached-preserved c =
    let l = c.loop-reached in
    let own = c.args.own in
    let found = found_next c.requires own _ c.skip-end.ensures l.s _ c.in-Some.ensures in (
      omega (arith, found.within),
      λ a.
          found_none a own _ c.skip-end.ensures l.s _ c.in-Some.ensures _ c.agrees_to.ensures
          c.if-agrees_to.false (l.invariant.1 a),
    )

pub returns : goal.returns
returns c =
    λ a. sym (none_found a c.args.own _ c.skip-end.ensures c.loop-reached.s c.in_default.ensures (c.loop-reached.invariant.1 a))
