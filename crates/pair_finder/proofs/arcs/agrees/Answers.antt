-- `pair_finder::arcs::agrees` meets its contract. The loop's invariant: the answer is that of the meetings still to come.
use mathlib.Core.Path.{sym}
use Prim.Native.Nat.{◌<◌}
use native.Mathlib.Omega.{arith}
use lib.ListN.{length}
use Rattle.terms.specs.Kept.{TermAt}
use Rattle.pairs.specs.Arcs.{agrees}
use Rattle.pair_finder.specs.Walking.{MeetingAt}
use Rattle.pair_finder.proofs.Kept.{term_passed}
use Rattle.pair_finder.proofs.Agreeing.{still_reaching, next_later, next_inside, none_left, meets, owed, other_within, met_there, meeting_passed, test, agreeing, two_terms, agrees_not, agrees_so_far}
use Rattle.pair_finder.proofs.arcs.agrees.Goals as goal

pub loop-met-init : goal.loop-met-init
loop-met-init c = λ m. agreeing _ _ _ _ _ _ _ _ m

pub next_meeting-requires : goal.next_meeting-requires
next_meeting-requires c =
    let asked : let a = c.args in MeetingAt a.pack.now.arities.now a.pack.now.defined.now a.pack.now.nodes.now a.at a.variable a.u a.end a.v = c.requires in
    let m = asked in still_reaching (test _ _ _ _ _ _ _ _ m) m.lists.walk _ _ _ (c.loop-met.invariant m)

pub bounds-pack-met : goal.bounds-pack-met
bounds-pack-met c =
    let asked : let a = c.args in MeetingAt a.pack.now.arities.now a.pack.now.defined.now a.pack.now.nodes.now a.at a.variable a.u a.end a.v = c.requires in
    let within : c.in-Some.met.other < length c.args.pack.now.nodes.now = let m = asked in
    other_within (test _ _ _ _ _ _ _ _ m) m.lists.walk _ _ _ (c.loop-met.invariant m) _ _ c.in-Some.ensures in
    within

pub fits-requires : goal.fits-requires
fits-requires c =
    let asked : let a = c.args in MeetingAt a.pack.now.arities.now a.pack.now.defined.now a.pack.now.nodes.now a.at a.variable a.u a.end a.v = c.requires in
    let m = asked in
    two_terms _ _ _ _ _ _ _ _ m _ _ _
    (meets (test _ _ _ _ _ _ _ _ m) m.lists.walk _ _ _ (c.loop-met.invariant m) _ _ c.in-Some.ensures)

pub returns-then-not-fits : goal.returns-then-not-fits
returns-then-not-fits c =
    λ m. let t = c.loop-met.invariant m in
    let next = c.in-Some.ensures in
    sym
    (agrees_not _ _ _ _ _ _ _ _ m _ _ _ (meets (test _ _ _ _ _ _ _ _ m) m.lists.walk _ _ _ t _ _ next) _
    (owed (test _ _ _ _ _ _ _ _ m) m.lists.walk _ _ _ t _ _ next) _ c.fits.ensures (c.if-not-fits.true))

pub skip-i-requires : goal.skip-i-requires
skip-i-requires c =
    let asked : let a = c.args in MeetingAt a.pack.now.arities.now a.pack.now.defined.now a.pack.now.nodes.now a.at a.variable a.u a.end a.v = c.requires in
    let term : TermAt c.args.pack.now.arities.now c.args.pack.now.nodes.now c.in-Some.met.first = let m = asked in
    met_there (test _ _ _ _ _ _ _ _ m) m.lists.walk _ _ _ (c.loop-met.invariant m) _ _ c.in-Some.ensures in
    let walk = asked.lists.walk in
    (walk.arities_long, walk.nodes_few, term)

pub overflow_add-k : goal.overflow_add-k
overflow_add-k c =
    let asked : let a = c.args in MeetingAt a.pack.now.arities.now a.pack.now.defined.now a.pack.now.nodes.now a.at a.variable a.u a.end a.v = c.requires in
    let within : c.in-Some.met.other < length c.args.pack.now.nodes.now = let m = asked in
    other_within (test _ _ _ _ _ _ _ _ m) m.lists.walk _ _ _ (c.loop-met.invariant m) _ _ c.in-Some.ensures in
    omega (arith, within)

pub loop-met-smaller : goal.loop-met-smaller
loop-met-smaller c =
    let asked : let a = c.args in MeetingAt a.pack.now.arities.now a.pack.now.defined.now a.pack.now.nodes.now a.at a.variable a.u a.end a.v = c.requires in
    let term : TermAt c.args.pack.now.arities.now c.args.pack.now.nodes.now c.in-Some.met.first = let m = asked in
    met_there (test _ _ _ _ _ _ _ _ m) m.lists.walk _ _ _ (c.loop-met.invariant m) _ _ c.in-Some.ensures in
    let m = asked in
    let on = next_later (test _ _ _ _ _ _ _ _ m) m.lists.walk _ _ _ (c.loop-met.invariant m) _ _ c.in-Some.ensures in
    let inside = next_inside (test _ _ _ _ _ _ _ _ m) m.lists.walk _ _ _ (c.loop-met.invariant m) _ _ c.in-Some.ensures in
    omega (arith, on, inside, term_passed _ _ _ term c.skip-i.result (c.skip-i.ensures term))

pub loop-met-preserved : goal.loop-met-preserved
loop-met-preserved c =
    λ m. let t = c.loop-met.invariant m in
    let next = c.in-Some.ensures in
    meeting_passed (test _ _ _ _ _ _ _ _ m) m.lists.walk _ _ _ t _ _ next _ c.skip-i.ensures
    (agrees_so_far _ _ _ _ _ _ _ _ m _ _ _ (meets (test _ _ _ _ _ _ _ _ m) m.lists.walk _ _ _ t _ _ next) _
    (owed (test _ _ _ _ _ _ _ _ m) m.lists.walk _ _ _ t _ _ next) _ c.fits.ensures (c.if-not-fits.false))

pub returns : goal.returns
unfolding agrees
returns c =
    λ m. sym (none_left (test _ _ _ _ _ _ _ _ m) m.lists.walk _ _ _ (c.loop-met.invariant m) c.in_default.ensures)
