-- Everything that the examples compute with, opened by one name: `unfolding computed`.
use Prim.Native.Nat.{ℕ}
use Rattle.rewriting.specs.Terms.{substituted, rule}
use Rattle.rewriting.specs.Pairs.{subterms, has_root, same_root, arguments, defined_by, defined, defined_root, pair_left, pair_right, is_pair}
use Rattle.rewriting.specs.Systems.{is_app, variables, member, all_in}
use Rattle.records.specs.Records.{two, record_at, first_records, all_records, length_bad, low_two, record_bytes, all_record_bytes}
use Rattle.records.specs.Order.{index, entry, order, when_in, lets, may_follow}
use Rattle.records.specs.Rising.{rises, last_below, rising}
use Rattle.terms.specs.Sides.{flat, applied, with_first, and_others, parse_all, parse, whole, side}
use Rattle.packs.specs.PackReading.{symbol_read, side_count, rule_read, node_zeros, node_in_range, node_of, rule_of, rule_ended, node_read, pack_step, pack_end, pack_from, read_pack}
use Rattle.packs.specs.Encoding.{node_record, node_records, symbol_records, rule_records, pack_records, pack_bytes}
use Rattle.pairs.specs.Listing.{pairs_from, pairs_of, pairs, same_pair, count_pair, pair_record, pair_records, pair_bytes}
use Rattle.pairs.specs.Arcs.{may_meet, meetings, agrees, all_agree, unifies, arc, reach_arc}
use Rattle.polynomials.specs.Polynomials.{weight, scaled_sum, summed, combined, polynomials, first, polynomial_of, marked_polynomial, each_at_least, at_least, greater}
use Rattle.polynomials.specs.Limit.{limit, any_above, over_limit, over, marked_over}
use Rattle.polynomials.specs.Judging.{any, without, is_none, rule_over, rule_rises, call_over, call_rises, call_falls, one_remains, weightings_refusal}
use Rattle.certificates.specs.Components.{first_weighting, with_pair, with_weighting, last_weighting, on_last, add_weight, add_marked, with_weight, with_marked}
use Rattle.certificates.specs.CertificateReading.{with_begun, components_of, has_weighting, component_read, pair_read, weights_below, is_place, weight_read, marked_read, weighting_read, inside_read, cert_step, cert_end, cert_from, components_from, read_certificate}
use Rattle.certificates.specs.Encoding.{weight_records, beginning, weighting_records, component_records, certificate_bytes}
use Rattle.judging.specs.Judges.{plain}
use Rattle.judging.specs.Judge.{all_pairs, each_once, arcs_among, back_arc, call, calls, weighed_refusal, component_refusal, components_refusal, judged}
use Rattle.judging.specs.Check.{check_read, check_pack, check}
use Rattle.promises.specs.Examples.{division, division_shown, division_less, nothing, nested, nested_shown, nested_exchanged, constants, constants_shown, swapping, swapping_shown, loop, loop_unweighted, loop_under, shrinking, shrinking_pairs, twice, thrice, heavy_s, lexicographic, lexicographic_under, same_twice, last_two, under_defined, toyama, starred, several, by_unifier}

unfoldable pub computed : ℕ
unfolding substituted rule subterms has_root same_root arguments defined_by defined defined_root pair_left pair_right is_pair is_app variables member all_in two record_at first_records all_records length_bad low_two record_bytes all_record_bytes index entry order when_in lets may_follow rises last_below rising flat applied with_first and_others parse_all parse whole side symbol_read side_count rule_read node_zeros node_in_range node_of rule_of rule_ended node_read pack_step pack_end pack_from read_pack node_record node_records symbol_records rule_records pack_records pack_bytes pairs_from pairs_of pairs same_pair count_pair pair_record pair_records pair_bytes may_meet meetings agrees all_agree unifies arc reach_arc weight scaled_sum summed combined polynomials first polynomial_of marked_polynomial each_at_least at_least greater limit any_above over_limit over marked_over any without is_none rule_over rule_rises call_over call_rises call_falls one_remains weightings_refusal first_weighting with_pair with_weighting last_weighting on_last add_weight add_marked with_weight with_marked with_begun components_of has_weighting component_read pair_read weights_below is_place weight_read marked_read weighting_read inside_read cert_step cert_end cert_from components_from read_certificate weight_records beginning weighting_records component_records certificate_bytes plain all_pairs each_once arcs_among back_arc call calls weighed_refusal component_refusal components_refusal judged check_read check_pack check division division_shown division_less nothing nested nested_shown nested_exchanged constants constants_shown swapping swapping_shown loop loop_unweighted loop_under shrinking shrinking_pairs twice thrice heavy_s lexicographic lexicographic_under same_twice last_two under_defined toyama starred several by_unifier
computed = 0
