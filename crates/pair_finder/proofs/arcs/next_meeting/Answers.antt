-- `pair_finder::arcs::next_meeting` meets its contract. The loop's invariant: all that is met is met in what is still to be walked.
use mathlib.Core.Path.{refl, sym, ◌∙◌}
use native.Mathlib.Omega.{arith}
use Rattle.terms.specs.Kept.{TermAt}
use Rattle.pair_finder.proofs.Kept.{term_within, term_passed}
use Rattle.pair_finder.proofs.Walks.{at_hand, first_there, other_there}
use Rattle.pair_finder.proofs.Gathering.{gather_ends, gather_skips, gather_enters, walk_comes}
use Rattle.pair_finder.proofs.arcs.next_meeting.Goals as goal

pub loop-i-init : goal.loop-i-init
loop-i-init c =
    (omega arith, λ w. record { firsts = w.walk.first; others = w.walk.other; lists = w.walk.lists; known = (w.reaches, refl) })

pub bounds-pack-i : goal.bounds-pack-i
bounds-pack-i c =
    let first : TermAt c.args.pack.now.arities.now c.args.pack.now.nodes.now c.loop-i.i = let l = c.loop-i in
    first_there _ _ _ _ _ _ _ _ _ (at_hand _ _ _ _ _ _ _ l.i l.k (l.invariant.1 c.requires) c.loop-i-test.true) in
    term_within _ _ _ first

pub is_open-requires : goal.is_open-requires
is_open-requires c = c.requires.walk.flags_long

pub skip-i-requires : goal.skip-i-requires
skip-i-requires c =
    let first : TermAt c.args.pack.now.arities.now c.args.pack.now.nodes.now c.loop-i.i = let l = c.loop-i in
    first_there _ _ _ _ _ _ _ _ _ (at_hand _ _ _ _ _ _ _ l.i l.k (l.invariant.1 c.requires) c.loop-i-test.true) in
    let walk = c.requires.walk in
    (walk.arities_long, walk.nodes_few, first)

pub skip-k-requires : goal.skip-k-requires
skip-k-requires c =
    let other : TermAt c.args.pack.now.arities.now c.args.pack.now.nodes.now c.loop-i.k = let l = c.loop-i in
    other_there _ _ _ _ _ _ _ _ _ (at_hand _ _ _ _ _ _ _ l.i l.k (l.invariant.1 c.requires) c.loop-i-test.true) in
    let walk = c.requires.walk in
    (walk.arities_long, walk.nodes_few, other)

pub loop-i-smaller-then-is_open : goal.loop-i-smaller-then-is_open
loop-i-smaller-then-is_open c =
    let first : TermAt c.args.pack.now.arities.now c.args.pack.now.nodes.now c.loop-i.i = let l = c.loop-i in
    first_there _ _ _ _ _ _ _ _ _ (at_hand _ _ _ _ _ _ _ l.i l.k (l.invariant.1 c.requires) c.loop-i-test.true) in
    omega (arith, c.loop-i-test.true, term_passed _ _ _ first c.skip-i.result (c.skip-i.ensures first))

pub loop-i-preserved-then-is_open : goal.loop-i-preserved-then-is_open
loop-i-preserved-then-is_open c =
    let first : TermAt c.args.pack.now.arities.now c.args.pack.now.nodes.now c.loop-i.i = let l = c.loop-i in
    first_there _ _ _ _ _ _ _ _ _ (at_hand _ _ _ _ _ _ _ l.i l.k (l.invariant.1 c.requires) c.loop-i-test.true) in
    let l = c.loop-i in (
      omega (arith, l.invariant.0, term_passed _ _ _ first c.skip-i.result (c.skip-i.ensures first)),
      λ w.
          gather_skips _ _ _ _ _ _ _ l.i l.k (l.invariant.1 w) c.loop-i-test.true (sym c.is_open.ensures ∙ c.if-is_open.true) _ _
          c.skip-i.ensures c.skip-k.ensures,
    )

pub bounds-pack-k : goal.bounds-pack-k
bounds-pack-k c =
    let other : TermAt c.args.pack.now.arities.now c.args.pack.now.nodes.now c.loop-i.k = let l = c.loop-i in
    other_there _ _ _ _ _ _ _ _ _ (at_hand _ _ _ _ _ _ _ l.i l.k (l.invariant.1 c.requires) c.loop-i-test.true) in
    term_within _ _ _ other

pub returns-then-pack-k-ge-FIRST_VARIABLE : goal.returns-then-pack-k-ge-FIRST_VARIABLE
returns-then-pack-k-ge-FIRST_VARIABLE c =
    λ w.
    let l = c.loop-i in
    walk_comes _ _ _ _ _ _ _ _ l.i l.k (l.invariant.1 w) l.invariant.0 c.loop-i-test.true (sym c.is_open.ensures ∙ c.if-is_open.false)
    c.if-pack-k-ge-FIRST_VARIABLE.true

pub overflow_add-i : goal.overflow_add-i
overflow_add-i c =
    let first : TermAt c.args.pack.now.arities.now c.args.pack.now.nodes.now c.loop-i.i = let l = c.loop-i in
    first_there _ _ _ _ _ _ _ _ _ (at_hand _ _ _ _ _ _ _ l.i l.k (l.invariant.1 c.requires) c.loop-i-test.true) in
    omega (arith, term_within _ _ _ first)

pub overflow_add-k : goal.overflow_add-k
overflow_add-k c =
    let other : TermAt c.args.pack.now.arities.now c.args.pack.now.nodes.now c.loop-i.k = let l = c.loop-i in
    other_there _ _ _ _ _ _ _ _ _ (at_hand _ _ _ _ _ _ _ l.i l.k (l.invariant.1 c.requires) c.loop-i-test.true) in
    omega (arith, term_within _ _ _ other)

pub loop-i-preserved : goal.loop-i-preserved
loop-i-preserved c =
    let l = c.loop-i in (
      omega (arith, l.invariant.0),
      λ w.
          gather_enters _ _ _ _ _ _ _ l.i l.k (l.invariant.1 w) c.loop-i-test.true (sym c.is_open.ensures ∙ c.if-is_open.false)
          c.if-pack-k-ge-FIRST_VARIABLE.false,
    )

pub returns : goal.returns
returns c = λ w. let l = c.loop-i in gather_ends _ _ _ _ _ _ _ l.i l.k (l.invariant.1 w) c.loop-i-test.false
