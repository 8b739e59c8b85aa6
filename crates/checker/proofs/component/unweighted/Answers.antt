-- `checker::component::unweighted` meets its contract: its one pair is read, and asked for an arc to its own rule.
use mathlib.Core.Path.{◌≡◌, ap, ◌∙◌}
use mathlib.Core.Bool.{Bool, true, false, cond}
use mathlib.Core.List.{List, []}
use Prim.Native.Nat.{ℕ, ◌+◌, ◌*◌, ◌/◌, ◌<◌}
use native.Mathlib.Nat.{add-zero}
use native.Mathlib.Omega.{arith}
use lib.ListN.{length, get_or}
use Rattle.rewriting.specs.Terms.{System}
use Rattle.rewriting.specs.Pairs.{Pair, is_pair}
use Rattle.records.specs.declared.Record.{Record}
use Rattle.std.specs.Prelude.{Ok, Err}
use Rattle.records.specs.declared.Refusal.TheVariants.{SelfArc}
use Rattle.records.specs.Records.{record_at}
use Rattle.pack_reader.specs.Stored.{Stored}
use Rattle.pairs.specs.Listing.{a_pair, pair_record}
use Rattle.pairs.specs.Arcs.{arc}
use Rattle.pair_finder.specs.Walking.{ArcAsked}
use Rattle.pair_finder.proofs.FromStore.{stored_arc, stored_arc_answer}
use Rattle.certificates.specs.Components.{Component}
use Rattle.certificates.specs.Encoding.{weighting_records}
use Rattle.judging.specs.Judges.{plain}
use Rattle.judging.specs.Judge.{weighed_refusal, component_refusal}
use Rattle.partition.specs.Working.{AllPairs}
use Rattle.checker.specs.Working.{ComponentJudged, answered, record_count, UnweightedAsked}
use Rattle.judging.proofs.Components.{only_arc}
use Rattle.checker.proofs.FromStore.{pair_in_rules}
use Rattle.checker.proofs.Positions.{no_weightings, pairs_here, pair_here}
use Rattle.checker.proofs.component.unweighted.Goals as goal

number_of_none : (p : System) (c : Component) → c.weightings ≡ [] → length c.pairs ≡ 1 →
    let q = get_or c.pairs 0 (a_pair 0 0) in component_refusal p (plain p) c ≡ cond (arc p q q) 10 0
unfolding component_refusal weighed_refusal plain
number_of_none p c none one = rw (none, only_arc (plain p) (a_pair 0 0) c.pairs one)

count_of_none : (c : Component) → c.weightings ≡ [] → length c.pairs ≡ 1 → record_count c ≡ 2
unfolding record_count weighting_records
count_of_none c none one = rw (none, one) (omega arith)

module _ {cert : List ℕ} {at rules : ℕ} {ar ss ns ms : List ℕ} (a : UnweightedAsked cert at rules ar ss ns ms) where
  abbrev p : System
  p = a.kept.system

  abbrev s : Stored p a.kept.symbols rules ar ss ns ms
  s = a.kept.stored

  abbrev c : Component
  c = a.there.component

  abbrev q : Pair
  q = get_or c.pairs 0 (a_pair 0 0)

  one : length c.pairs ≡ 1
  one = a.fits.alone a.none

  is : is_pair p q ≡ true
  unfolding AllPairs
  is = a.fits.are_pairs 0 (omega (arith, one))

  -- its record is the next
  its_record : (at + 1 < length cert / 8) × (record_at cert (8 * (at + 1)) ≡ pair_record q)
  its_record = rw add-zero at (pair_here cert (at + 1) c.pairs (pairs_here a.there.stands) 0 (omega (arith, one)))

  -- the number, and the record after the component
  number : component_refusal p (plain p) c ≡ cond (arc p q q) 10 0
  number = number_of_none p c (no_weightings c.weightings a.none) one

  counted : at + record_count c ≡ at + 2
  counted = ap (λ n. at + n) (count_of_none c (no_weightings c.weightings a.none) one)

  module _ {r : Record} (read : r ≡ record_at cert (8 * (at + 1))) where
    reads_pair : r ≡ pair_record q
    reads_pair = read ∙ its_record.1

    in_rules : r.a < rules
    unfolding pair_record
    in_rules = rw reads_pair (pair_in_rules s q is)

    asked : ArcAsked ar ss ns ms (get_or ss (2 * r.a + 1) 0 + r.b) r.a
    unfolding pair_record
    asked = rw reads_pair (stored_arc p a.kept.symbols rules ar ss ns ms s a.kept.arrays q q.at_rule is (pair_in_rules s q is))

    module _ {b : Bool} (answer : (x : ArcAsked ar ss ns ms (get_or ss (2 * r.a + 1) 0 + r.b) r.a) → b ≡ arc x.kept.system x.pair (a_pair r.a 0)) where
      self_arc : b ≡ arc p q q
      unfolding pair_record
      self_arc = stored_arc_answer p a.kept.symbols rules ar ss ns ms s a.kept.arrays q q is (pair_in_rules s q is) b (rw reads_pair at answer)

      refuses : b ≡ true → ComponentJudged p c at (Err SelfArc)
      unfolding ComponentJudged answered
      refuses h = rw (number, ← self_arc, h)

      passes : b ≡ false → ComponentJudged p c at (Ok (at + 2))
      unfolding ComponentJudged answered
      passes h = rw (number, ← self_arc, h, counted)

pub overflow_add-at : goal.overflow_add-at
overflow_add-at c =
    let next_within : c.args.at + 1 < length c.args.certificate.now / 8 = (its_record c.requires).0 in
    omega (arith, next_within)

pub overflow_mul-at : goal.overflow_mul-at
overflow_mul-at c =
    let next_within : c.args.at + 1 < length c.args.certificate.now / 8 = (its_record c.requires).0 in
    omega (arith, next_within)

pub record_at-r-requires : goal.record_at-r-requires
record_at-r-requires c =
    let next_within : c.args.at + 1 < length c.args.certificate.now / 8 = (its_record c.requires).0 in
    omega (arith, next_within)

pub bounds-pack-rule : goal.bounds-pack-rule
bounds-pack-rule c = omega (arith, in_rules c.requires c.record_at-r.ensures)

pub arc_from-requires : goal.arc_from-requires
arc_from-requires c = rw (c.view-view.ensures.2, c.view-view.ensures.3, c.view-view.ensures.4, c.view-view.ensures.5, c.from.ensures, c.from-2.ensures, c.from-rule.ensures) (asked c.requires c.record_at-r.ensures)

pub returns-then-arc_from : goal.returns-then-arc_from
returns-then-arc_from c = λ a. refuses a c.record_at-r.ensures (rw (c.view-view.ensures.2, c.view-view.ensures.3, c.view-view.ensures.4, c.view-view.ensures.5, c.from.ensures, c.from-2.ensures, c.from-rule.ensures) at c.arc_from.ensures) c.if-arc_from.true

pub overflow_add-result : goal.overflow_add-result
overflow_add-result c =
    let next_within : c.args.at + 1 < length c.args.certificate.now / 8 = (its_record c.requires).0 in
    omega (arith, next_within)

pub returns : goal.returns
returns c = λ a. passes a c.record_at-r.ensures (rw (c.view-view.ensures.2, c.view-view.ensures.3, c.view-view.ensures.4, c.view-view.ensures.5, c.from.ensures, c.from-2.ensures, c.from-rule.ensures) at c.arc_from.ensures) c.if-arc_from.false
