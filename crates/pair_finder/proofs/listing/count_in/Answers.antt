-- `pair_finder::listing::count_in` meets its contract: there are as many places as nodes that the filter keeps.
use mathlib.Core.Path.{◌≡◌, refl, ap, ◌∙◌}
use mathlib.Core.List.{List, [], ◌∷◌}
use Prim.Native.Nat.{ℕ, suc, ◌-◌}
use lib.ListN.{length, take, drop}
use borrow.Author.Rules.{rules}
use borrow.Author.Tests.{tests}
use Rattle.std.specs.List.{filter}
use Rattle.std.proofs.lemmas.Iterator.{YieldsList-from_slice}
use Rattle.std.proofs.lemmas.Iterator.Consumers.{YieldsList-from_filter, count_from_yields_List}
use Rattle.rewriting.proofs.Basics.{by_test}
use Rattle.terms.specs.Kept.{part}
use Rattle.pair_finder.specs.Walking.{is_defined, places}
use Rattle.pair_finder.proofs.listing.count_in.Goals as goal

as_many : (ms : List ℕ) (k : ℕ) (cs : List ℕ) → length (filter (is_defined ms) cs) ≡ length (places ms k cs)
unfolding places
as_many ms k [] = refl
as_many ms k (c ∷ cs) =
    by_test (is_defined ms c) (λ e. rw e (ap suc (as_many ms (suc k) cs))) (λ e. rw e (as_many ms (suc k) cs))

pub returns : goal.returns
unfolding part
returns c =
    let pack = c.args.pack.now in
    let side = take (c.args.to - c.args.from) (drop c.args.from pack.nodes.now) in
    count_from_yields_List c.filter.result _ c.count.ensures.ran
    (YieldsList-from_filter _ (is_defined pack.defined.now) (YieldsList-from_slice side cc) c.filter.ensures.closure (λ x r q k. search (rules, tests)))
    ∙ as_many pack.defined.now 0 side
