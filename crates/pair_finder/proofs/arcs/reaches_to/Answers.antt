-- `pair_finder::arcs::reaches_to` meets its contract: unlike first bytes are unlike roots, like ones leave it to the arguments.
use mathlib.Core.Path.{sym}
use Prim.Native.Nat.{◌*◌, ◌<◌}
use native.Mathlib.Omega.{arith}
use lib.ListN.{length, get_or}
use borrow.Author.Tests.{ne_eqb}
use Rattle.pair_finder.proofs.Kept.{term_within}
use Rattle.pair_finder.proofs.Asked.{other_small, right_at, left_at, no_reach, to_walk, arc_walked}
use Rattle.pair_finder.proofs.arcs.reaches_to.Goals as goal

pub overflow_mul-other : goal.overflow_mul-other
overflow_mul-other c = omega (arith, other_small _ _ _ _ _ _ c.requires.asked)

pub offset_bounds-pack-other : goal.offset_bounds-pack-other
offset_bounds-pack-other c = omega (arith, other_small _ _ _ _ _ _ c.requires.asked)

pub bounds-pack-other : goal.bounds-pack-other
bounds-pack-other c = omega (arith, other_small _ _ _ _ _ _ c.requires.asked)

pub bounds-pack-right : goal.bounds-pack-right
bounds-pack-right c =
    let right_within : c.args.right < length c.args.pack.now.nodes.now = term_within _ _ _ (right_at _ _ _ _ _ _ c.requires.asked) in
    right_within

pub bounds-pack-left : goal.bounds-pack-left
bounds-pack-left c =
    let left_within : get_or c.args.pack.now.starts.now (2 * c.args.other) 0 < length c.args.pack.now.nodes.now = term_within _ _ _ (left_at _ _ _ _ _ _ c.requires.asked) in
    rw c.from-left.ensures left_within

pub returns-else-pack-right : goal.returns-else-pack-right
returns-else-pack-right c =
    λ a. rw (ne_eqb _ _ c.if-pack-right.false) (sym (no_reach _ _ _ _ _ _ a (rw c.from-left.ensures at c.if-pack-right.false)))

pub overflow_add-right : goal.overflow_add-right
overflow_add-right c =
    let right_within : c.args.right < length c.args.pack.now.nodes.now = term_within _ _ _ (right_at _ _ _ _ _ _ c.requires.asked) in
    omega (arith, right_within)

pub overflow_add-left : goal.overflow_add-left
overflow_add-left c =
    let left_within : get_or c.args.pack.now.starts.now (2 * c.args.other) 0 < length c.args.pack.now.nodes.now = term_within _ _ _ (left_at _ _ _ _ _ _ c.requires.asked) in
    omega (arith, left_within, c.from-left.ensures)

pub may_meet-requires : goal.may_meet-requires
may_meet-requires c =
    rw c.from-left.ensures (to_walk _ _ _ _ _ _ c.requires.asked (rw c.from-left.ensures at c.if-pack-right.true) _ c.requires.ends)

pub returns-then-pack-right : goal.returns-then-pack-right
returns-then-pack-right c =
    λ a. arc_walked _ _ _ _ _ _ a (rw c.from-left.ensures at c.if-pack-right.true) _ c.requires.ends _ (rw c.from-left.ensures at c.may_meet.ensures)
