-- `weights::sums::all_at_least` meets its contract: what the closure says of each pair of numbers.
use borrow.Author.Rules.{rules}
use borrow.Author.Tests.{tests}
use Rattle.std.proofs.lemmas.Iterator.{cases_from_all, YieldsList-from_slice, YieldsList-from_zip}
use Rattle.weights.proofs.Least.{Least, Less, by_pairs}
use Rattle.weights.proofs.sums.all_at_least.Goals as goal

pub returns : goal.returns
returns c =
    by_pairs _ _ _
    (cases_from_all c.all.new.self _ _ Least Less c.all.ensures.ran
    (YieldsList-from_zip (YieldsList-from_slice c.args.xs.now cc) (YieldsList-from_slice c.args.ys.now cc))
    (λ x q k. search (rules, tests)) (λ x q k. search (rules, tests)))
