-- `pair_finder::listing::count_pairs` meets its contract: what the rules have is added, at most 32 pairs a rule.
use mathlib.Core.Path.{◌∙◌}
use native.Mathlib.Omega.{arith}
use borrow.Author.Rules.{rules}
use borrow.Author.Tests.{tests}
use Rattle.std.proofs.lemmas.Iterator.{YieldsList-from_range, YieldsList-from_map}
use Rattle.std.proofs.lemmas.Iterator.Consumers.{sum_from_yields_List, fits_from_yields_list}
use Rattle.pair_finder.proofs.DefinedPlaces.{pairs_in, pairs_summed, first_few}
use Rattle.pair_finder.proofs.listing.count_pairs.Goals as goal

pub sum-requires-clause-fits : goal.sum-requires-clause-fits
sum-requires-clause-fits c =
    let k = c.args.pack.now in
    let laid = c.requires.0 in
    fits_from_yields_list c.map.result _
    (YieldsList-from_map _ (pairs_in k.starts.now k.nodes.now k.defined.now) (YieldsList-from_range 0 k.rules k.rules c.map.ensures.source (omega arith)) c.map.ensures.closure (λ x r q h. search (rules, tests)))
    (omega (arith, laid.few, pairs_summed k.starts.now k.nodes.now k.defined.now k.rules, first_few k.starts.now k.nodes.now k.defined.now k.rules laid.short))

pub returns : goal.returns
returns c =
    let k = c.args.pack.now in
    sum_from_yields_List c.map.result _ c.sum.ensures.ran
    (YieldsList-from_map _ (pairs_in k.starts.now k.nodes.now k.defined.now) (YieldsList-from_range 0 k.rules k.rules c.map.ensures.source (omega arith)) c.map.ensures.closure (λ x r q h. search (rules, tests)))
    ∙ pairs_summed k.starts.now k.nodes.now k.defined.now k.rules
