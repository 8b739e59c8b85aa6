-- `pair_finder::arcs::agrees_to` meets its contract: where the arguments may reach each other, what their variables meet decides.
use native.Mathlib.Omega.{arith}
use Rattle.pair_finder.proofs.Kept.{term_within}
use Rattle.pair_finder.proofs.Asked.{other_small, right_at, left_at, to_agree, arc_agreed}
use Rattle.pair_finder.proofs.arcs.agrees_to.Goals as goal

pub overflow_mul-other : goal.overflow_mul-other
overflow_mul-other c = omega (arith, other_small _ _ _ _ _ _ c.requires.ended.asked)

pub offset_bounds-pack-other : goal.offset_bounds-pack-other
offset_bounds-pack-other c = omega (arith, other_small _ _ _ _ _ _ c.requires.ended.asked)

pub bounds-pack-other : goal.bounds-pack-other
bounds-pack-other c = omega (arith, other_small _ _ _ _ _ _ c.requires.ended.asked)

pub overflow_add-right : goal.overflow_add-right
overflow_add-right c = omega (arith, term_within _ _ _ (right_at _ _ _ _ _ _ c.requires.ended.asked))

pub overflow_add-left : goal.overflow_add-left
overflow_add-left c = omega (arith, c.from-left.ensures, term_within _ _ _ (left_at _ _ _ _ _ _ c.requires.ended.asked))

pub all_agree-requires : goal.all_agree-requires
all_agree-requires c = rw c.from-left.ensures (to_agree _ _ _ _ _ _ _ c.requires)

pub returns : goal.returns
returns c = λ a. arc_agreed _ _ _ _ _ _ _ a _ (rw c.from-left.ensures at c.all_agree.ensures)
