-- `pair_finder::arcs::all_agree` meets its contract. The loop's invariant: the answer is that of the meetings still to come.
use mathlib.Core.Path.{sym}
use Prim.Native.Nat.{◌<◌}
use native.Mathlib.Omega.{arith}
use lib.ListN.{length}
use Rattle.terms.specs.Kept.{TermAt}
use Rattle.pairs.specs.Arcs.{all_agree}
use Rattle.pair_finder.specs.Walking.{Reaching}
use Rattle.pair_finder.proofs.Kept.{term_passed}
use Rattle.pair_finder.proofs.Agreeing.{still_reaching, next_later, next_inside, none_left, meets, owed, other_within, met_there, meeting_passed, test_all, agreeing_all, held_against, not_all, all_so_far}
use Rattle.pair_finder.proofs.arcs.all_agree.Goals as goal

pub loop-met-init : goal.loop-met-init
loop-met-init c = λ w. agreeing_all _ _ _ _ _ _ w

pub next_meeting-requires : goal.next_meeting-requires
next_meeting-requires c =
    let asked : let a = c.args in Reaching a.pack.now.arities.now a.pack.now.defined.now a.pack.now.nodes.now a.u a.end a.v = c.requires in
    let w = asked in still_reaching (test_all _ _ _ _ _ _ w) w.walk _ _ _ (c.loop-met.invariant w)

pub skip-next-requires : goal.skip-next-requires
skip-next-requires c =
    let asked : let a = c.args in Reaching a.pack.now.arities.now a.pack.now.defined.now a.pack.now.nodes.now a.u a.end a.v = c.requires in
    let term : TermAt c.args.pack.now.arities.now c.args.pack.now.nodes.now c.in-Some.met.first = let w = asked in
    met_there (test_all _ _ _ _ _ _ w) w.walk _ _ _ (c.loop-met.invariant w) _ _ c.in-Some.ensures in
    let walk = asked.walk in
    (walk.arities_long, walk.nodes_few, term)

pub overflow_add-after : goal.overflow_add-after
overflow_add-after c =
    let asked : let a = c.args in Reaching a.pack.now.arities.now a.pack.now.defined.now a.pack.now.nodes.now a.u a.end a.v = c.requires in
    let within : c.in-Some.met.other < length c.args.pack.now.nodes.now = let w = asked in
    other_within (test_all _ _ _ _ _ _ w) w.walk _ _ _ (c.loop-met.invariant w) _ _ c.in-Some.ensures in
    omega (arith, within)

pub bounds-pack-met : goal.bounds-pack-met
bounds-pack-met c =
    let asked : let a = c.args in Reaching a.pack.now.arities.now a.pack.now.defined.now a.pack.now.nodes.now a.u a.end a.v = c.requires in
    let within : c.in-Some.met.other < length c.args.pack.now.nodes.now = let w = asked in
    other_within (test_all _ _ _ _ _ _ w) w.walk _ _ _ (c.loop-met.invariant w) _ _ c.in-Some.ensures in
    within

pub agrees-requires : goal.agrees-requires
agrees-requires c =
    let asked : let a = c.args in Reaching a.pack.now.arities.now a.pack.now.defined.now a.pack.now.nodes.now a.u a.end a.v = c.requires in
    let w = asked in
    held_against _ _ _ _ _ _ w _ _ _
    (meets (test_all _ _ _ _ _ _ w) w.walk _ _ _ (c.loop-met.invariant w) _ _ c.in-Some.ensures) _ c.skip-next.ensures

pub returns-then-not-agrees : goal.returns-then-not-agrees
returns-then-not-agrees c =
    λ w. let t = c.loop-met.invariant w in
    let next = c.in-Some.ensures in
    sym
    (not_all _ _ _ _ _ _ w _ _ _ (meets (test_all _ _ _ _ _ _ w) w.walk _ _ _ t _ _ next) _ c.skip-next.ensures _
    (owed (test_all _ _ _ _ _ _ w) w.walk _ _ _ t _ _ next) _ c.agrees.ensures (c.if-not-agrees.true))

pub loop-met-smaller : goal.loop-met-smaller
loop-met-smaller c =
    let asked : let a = c.args in Reaching a.pack.now.arities.now a.pack.now.defined.now a.pack.now.nodes.now a.u a.end a.v = c.requires in
    let term : TermAt c.args.pack.now.arities.now c.args.pack.now.nodes.now c.in-Some.met.first = let w = asked in
    met_there (test_all _ _ _ _ _ _ w) w.walk _ _ _ (c.loop-met.invariant w) _ _ c.in-Some.ensures in
    let w = asked in
    let on = next_later (test_all _ _ _ _ _ _ w) w.walk _ _ _ (c.loop-met.invariant w) _ _ c.in-Some.ensures in
    let inside = next_inside (test_all _ _ _ _ _ _ w) w.walk _ _ _ (c.loop-met.invariant w) _ _ c.in-Some.ensures in
    omega (arith, on, inside, term_passed _ _ _ term c.skip-next.result (c.skip-next.ensures term))

pub loop-met-preserved : goal.loop-met-preserved
loop-met-preserved c =
    λ w. let t = c.loop-met.invariant w in
    let next = c.in-Some.ensures in
    meeting_passed (test_all _ _ _ _ _ _ w) w.walk _ _ _ t _ _ next _ c.skip-next.ensures
    (all_so_far _ _ _ _ _ _ w _ _ _ (meets (test_all _ _ _ _ _ _ w) w.walk _ _ _ t _ _ next) _ c.skip-next.ensures _
    (owed (test_all _ _ _ _ _ _ w) w.walk _ _ _ t _ _ next) _ c.agrees.ensures (c.if-not-agrees.false))

pub returns : goal.returns
unfolding all_agree
returns c =
    λ w. sym (none_left (test_all _ _ _ _ _ _ w) w.walk _ _ _ (c.loop-met.invariant w) c.in_default.ensures)
