-- `pair_finder::arcs::fits` meets its contract: two variables, or two terms compared as lists of one element.
use borrow.Author.Tests.{eq-eqb, ne_eqb}
use Rattle.pair_finder.proofs.Comparing.{terms_walkable, terms_compared}
use Rattle.pair_finder.proofs.arcs.fits.Goals as goal

pub returns-then-other-variable : goal.returns-then-other-variable
returns-then-other-variable c = λ w. rw (ne_eqb _ _ c.if-other-variable.true)

pub may_meet-requires : goal.may_meet-requires
may_meet-requires c = terms_walkable _ _ _ _ _ _ c.requires

pub returns-else-other-variable : goal.returns-else-other-variable
returns-else-other-variable c = λ w. rw (eq-eqb _ _ c.if-other-variable.false) (terms_compared _ _ _ _ _ _ w _ c.may_meet.ensures)
