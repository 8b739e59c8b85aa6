-- `weights::sums::passes` meets its contract: the number is the limit's.
use borrow.Author.Rules.{rules}
use Rattle.polynomials.specs.Limit.{limit}
use Rattle.weights.proofs.sums.passes.Goals as goal

pub returns : goal.returns
unfolding limit
returns c = search rules
