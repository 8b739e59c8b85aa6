-- `checker::weighing::judge_pairs` meets its contract. The loop's invariant: the pairs before pair i are judged or have left, the numbers
-- from it on are as they were, and what is known of the left side of rule `last` is kept.
use mathlib.Core.Path.{◌≡◌, refl, sym, ap, ◌∙◌}
use mathlib.Core.Bool.{true, false, not, true≢false, false≢true}
use mathlib.Core.List.{List}
use Prim.Native.Nat.{ℕ, ◌+◌, ◌*◌, ◌-◌, ◌/◌, ◌<◌}
use native.Mathlib.Omega.{arith}
use lib.Dec.{eqb}
use lib.ListN.{length, get_or}
use borrow.Author.Tests.{eqb-true}
use Rattle.std.specs.Option.{option_eq}
use Rattle.rewriting.proofs.Basics.{by_test}
use Rattle.std.specs.Prelude.{Option, None, Some}
use Rattle.rewriting.specs.Terms.{System}
use Rattle.rewriting.specs.Pairs.{Pair, is_pair, arguments}
use Rattle.records.specs.declared.Record.{Record}
use Rattle.records.specs.Records.{record_at}
use Rattle.pairs.specs.Listing.{a_pair, pair_record}
use Rattle.weights.specs.declared.PairVerdict.{PairVerdict}
use Rattle.polynomials.specs.Polynomials.{Weight}
use Rattle.polynomials.specs.Limit.{over}
use Rattle.polynomials.specs.Judging.{call_over, call_rises, call_falls}
use Rattle.weights.specs.Table.{TableIs, MarkedIs}
use Rattle.weights.specs.Working.{Applied, SideSummed, pair_verdict}
use Rattle.judging.specs.Judge.{call}
use Rattle.partition.specs.Working.{AllPairs}
use Rattle.checker.specs.Working.{PairsAsked, PresentAsked, ArgumentsWithin}
use Rattle.checker.proofs.FromStore.{weighting, pair_in_rules, left_applied, right_applied, call_answer}
use Rattle.checker.proofs.Positions.{pair_here}
use Rattle.checker.proofs.Tallies.{no_pair_judged, pair_gone, pair_over, pair_judged, judged_all, numbers_told, none_changed, one_changed, changed_within}
use Rattle.checker.proofs.weighing.judge_pairs.Invariants.{LeftKept}
use Rattle.checker.proofs.weighing.judge_pairs.Goals.{then-lefts-first+else-found, else-lefts-first, then-ne, else-ne}
use Rattle.checker.proofs.weighing.judge_pairs.Goals as goal

-- the same of equal ones
kept_as : (ar ns ts ss : List ℕ) {rule rule' : Option ℕ} {sums sums' : List ℕ} → rule ≡ rule' → sums ≡ sums' → LeftKept ar ns ts ss rule' sums' →
    LeftKept ar ns ts ss rule sums
kept_as ar ns ts ss e f k = rw (e, f) k

-- before the first pair
none_kept : (ar ns ts ss sums : List ℕ) → length sums ≡ 17 → LeftKept ar ns ts ss None sums
none_kept ar ns ts ss sums long = record { long = long; is_known = λ r h. cc }

-- of the rule whose side was summed up
side_kept : (ar ns ts ss : List ℕ) (rule : ℕ) (sums : List ℕ) → length sums ≡ 17 →
    SideSummed ar ns ts (get_or ss (2 * rule) 0) (get_or ss (2 * rule + 1) 0 - get_or ss (2 * rule) 0) true sums → LeftKept ar ns ts ss (Some rule) sums
side_kept ar ns ts ss rule sums long summed = record { long = long; is_known = λ r h. let e : rule ≡ r = cc in rw (← e) summed }

module _ {cert : List ℕ} {from count rules : ℕ} {ar ss ns : List ℕ} (a : PairsAsked cert from count rules ar ss ns) (i : ℕ) where
  abbrev p : System
  p = a.asked.kept.system

  abbrev qs : List Pair
  qs = a.pairs

  -- the record of pair i
  module _ (h : i < count) where
    abbrev q : Pair
    q = get_or qs i (a_pair 0 0)

    in_pairs : i < length qs
    in_pairs = omega (arith, a.counted)

    is : is_pair p q ≡ true
    unfolding AllPairs
    is = a.are_pairs i in_pairs

    within : from + i < length cert / 8
    within = (pair_here cert from qs a.stand i in_pairs).0

    module _ {r : Record} (read : r ≡ record_at cert (8 * (from + i))) where
      reads_pair : r ≡ pair_record q
      reads_pair = read ∙ (pair_here cert from qs a.stand i in_pairs).1

      in_rules : r.a < rules
      unfolding pair_record
      in_rules = rw reads_pair (pair_in_rules a.asked.kept.stored q is)

      left_there : Applied ar ns (get_or ss (2 * r.a) 0) (get_or ss (2 * r.a + 1) 0 - get_or ss (2 * r.a) 0)
      unfolding pair_record
      left_there = rw reads_pair (left_applied a.asked.kept.stored q is)

      right_there : Applied ar ns (get_or ss (2 * r.a + 1) 0 + r.b) (get_or ss (2 * r.a + 2) 0 - (get_or ss (2 * r.a + 1) 0 + r.b))
      unfolding pair_record
      right_there = rw reads_pair (right_applied a.asked.kept.stored q is)

      -- the verdict on the pair
      said : (ws vs : List Weight) → ArgumentsWithin p ws qs → {x : PairVerdict} →
          ((l : Applied ar ns (get_or ss (2 * r.a) 0) (get_or ss (2 * r.a + 1) 0 - get_or ss (2 * r.a) 0))
          (m : Applied ar ns (get_or ss (2 * r.a + 1) 0 + r.b) (get_or ss (2 * r.a + 2) 0 - (get_or ss (2 * r.a + 1) 0 + r.b))) →
          over ws (arguments l.side.term) ≡ false → over ws (arguments m.side.term) ≡ false →
          x
          ≡ pair_verdict (call_over (weighting ws vs) (record { left = l.side.term; right = m.side.term })) (call_rises (weighting ws vs) (record { left = l.side.term; right = m.side.term }))
          (call_falls (weighting ws vs) (record { left = l.side.term; right = m.side.term }))) →
          x ≡ pair_verdict (call_over (weighting ws vs) (call p q)) (call_rises (weighting ws vs) (call p q)) (call_falls (weighting ws vs) (call p q))
      unfolding pair_record
      said ws vs small answer = call_answer a.asked.kept.stored q is ws vs (small.lefts i in_pairs) (small.rights i in_pairs) (rw reads_pair at answer)

-- what the keeping of the left side comes to, and the verdict on the pair of a turn
module _ {cert : List ℕ} {from count first number rules : ℕ} {ar ss ns table before : List ℕ} {i : ℕ} (h : i < count) {r : Record}
    (read : r ≡ record_at cert (8 * (from + i))) {sums : List ℕ} (kept : LeftKept ar ns table ss (Some r.a) sums) where
  left_known : (a : PresentAsked cert from count first number rules ar ss ns before) →
      SideSummed ar ns table (get_or ss (2 * r.a) 0) (get_or ss (2 * r.a + 1) 0 - get_or ss (2 * r.a) 0) true sums
  left_known a = kept.is_known r.a refl

  its_verdict : {x : PairVerdict} →
      ((there behind : ℕ) (l : Applied ar ns there behind)
      (m : Applied ar ns (get_or ss (2 * r.a + 1) 0 + r.b) (get_or ss (2 * r.a + 2) 0 - (get_or ss (2 * r.a + 1) 0 + r.b))) (ws vs : List Weight) →
      SideSummed ar ns table there behind true sums → TableIs table ws → MarkedIs table vs →
      (true ≡ true → (over ws (arguments l.side.term) ≡ false) × (over ws (arguments m.side.term) ≡ false)) →
      x
      ≡ pair_verdict (call_over (weighting ws vs) (record { left = l.side.term; right = m.side.term })) (call_rises (weighting ws vs) (record { left = l.side.term; right = m.side.term }))
      (call_falls (weighting ws vs) (record { left = l.side.term; right = m.side.term }))) →
      (a : PresentAsked cert from count first number rules ar ss ns before) (ws vs : List Weight) → TableIs table ws → MarkedIs table vs →
      ArgumentsWithin a.pairs_asked.asked.kept.system ws a.pairs_asked.pairs →
      let it = call a.pairs_asked.asked.kept.system (get_or a.pairs_asked.pairs i (a_pair 0 0)) in
      x ≡ pair_verdict (call_over (weighting ws vs) it) (call_rises (weighting ws vs) it) (call_falls (weighting ws vs) it)
  its_verdict answer a ws vs t u small = said a.pairs_asked i h read ws vs small (λ x y o m. answer _ _ x y ws vs (left_known a) t u (λ _. (o, m)))

-- the test whether the left side of a rule is kept
same_rule : (last : Option ℕ) (n : ℕ) → false ≡ not (option_eq eqb last (Some n)) → last ≡ Some n
same_rule None n h = absurd (false≢true h)
same_rule (Some m) n h = ap (λ (k : ℕ). Some k) (eqb-true m n (by_test (eqb m n) (λ e. e) (λ e. absurd (false≢true (h ∙ ap not e)))))

pub loop-i-init : goal.loop-i-init
loop-i-init c =
    (none_kept _ _ _ _ _ refl, none_changed _ _ _, λ a ws vs t u small. no_pair_judged _ _ _ _ _ _)

pub overflow_add-first : goal.overflow_add-first
overflow_add-first c = record { fits = omega (arith, c.requires.numbers.room, c.requires.pairs_asked.counted, c.loop-i-test.true) }

pub bounds-lefts-first : goal.bounds-lefts-first
bounds-lefts-first c = omega (arith, c.requires.numbers.room, c.requires.pairs_asked.counted, c.loop-i-test.true)

pub overflow_add-from : goal.overflow_add-from
overflow_add-from c = omega (arith, within c.requires.pairs_asked c.loop-i.i c.loop-i-test.true)

pub overflow_mul-from : goal.overflow_mul-from
overflow_mul-from c = omega (arith, within c.requires.pairs_asked c.loop-i.i c.loop-i-test.true)

pub record_at-r-requires : goal.record_at-r-requires
record_at-r-requires c = omega (arith, within c.requires.pairs_asked c.loop-i.i c.loop-i-test.true)

-- the record's rule is one
its_rule : {cert : List ℕ} {from count rules : ℕ} {ar ss ns : List ℕ} (a : PairsAsked cert from count rules ar ss ns) (i : ℕ) → i < count → {r : Record} →
    r ≡ record_at cert (8 * (from + i)) → {n : ℕ} → n ≡ r.a → 2 * n + 2 < length ss
its_rule a i h read e = let laid = a.asked.kept.arrays.laid in omega (arith, e, in_rules a i h read, laid.few, laid.starts_long)

pub bounds-pack-rule : goal.bounds-pack-rule
bounds-pack-rule c = omega (arith, its_rule c.requires.pairs_asked c.loop-i.i c.loop-i-test.true c.record_at-r.ensures c.from-rule.ensures)

pub bounds-pack-rule-then-lefts-first : goal.bounds-pack-rule-then-lefts-first
bounds-pack-rule-then-lefts-first c = omega (arith, its_rule c.requires.pairs_asked c.loop-i.i c.loop-i-test.true c.record_at-r.ensures c.from-rule.ensures)

pub bounds-pack-rule-then-lefts-first-2 : goal.bounds-pack-rule-then-lefts-first-2
bounds-pack-rule-then-lefts-first-2 c = omega (arith, its_rule c.requires.pairs_asked c.loop-i.i c.loop-i-test.true c.record_at-r.ensures c.from-rule.ensures)

pub marked_side-requires : goal.marked_side-requires
marked_side-requires c =
    let asked = c.requires.pairs_asked in
    rw (c.from-left.ensures, c.from-middle.ensures, c.from-rule.ensures)
    (asked.asked.kept.arrays.nodes_long, left_there asked c.loop-i.i c.loop-i-test.true c.record_at-r.ensures, refl)

-- the left side of the record's rule is kept
pub judge_call-v-requires : goal.judge_call-v-requires
judge_call-v-requires c =
    let a = c.args in
    let kept : LeftKept a.pack.now.arities a.pack.now.nodes a.table.now a.pack.now.starts (Some c.record_at-r.result.a) c.if-ne.sums =
    elim c.if-ne.branch [
      | then-ne z ↦
          kept_as _ _ _ a.pack.now.starts refl z.sums-is
          (side_kept _ _ _ _ _ _ z.marked_side.ensures.long (rw (c.from-left.ensures, c.from-middle.ensures, c.from-rule.ensures) at z.marked_side.ensures.side_summed))
      | else-ne z ↦ kept_as _ _ _ a.pack.now.starts (ap (λ (n : ℕ). Some n) (sym c.from-rule.ensures) ∙ sym (same_rule c.loop-i.last c.from-rule.result z.if-ne.ensures)) z.sums-is c.loop-i.invariant.0
    ] in
    let asked = c.requires.pairs_asked in
    rw (c.from-middle.ensures, c.from-end.ensures, c.from.ensures, c.from-rule.ensures)
    (asked.asked.kept.arrays.nodes_long, right_there asked c.loop-i.i c.loop-i-test.true c.record_at-r.ensures, kept.long)

pub returns-then-found : goal.returns-then-found
returns-then-found c =
    let g = c.args in
    let h = c.loop-i-test.true in
    let inv = c.loop-i.invariant in
    let kept : LeftKept g.pack.now.arities g.pack.now.nodes g.table.now g.pack.now.starts (Some c.record_at-r.result.a) c.if-ne.sums =
    elim c.if-ne.branch [
      | then-ne z ↦
          kept_as _ _ _ g.pack.now.starts refl z.sums-is
          (side_kept _ _ _ _ _ _ z.marked_side.ensures.long (rw (c.from-left.ensures, c.from-middle.ensures, c.from-rule.ensures) at z.marked_side.ensures.side_summed))
      | else-ne z ↦ kept_as _ _ _ g.pack.now.starts (ap (λ (n : ℕ). Some n) (sym c.from-rule.ensures) ∙ sym (same_rule c.loop-i.last c.from-rule.result z.if-ne.ensures)) z.sums-is inv.0
    ] in
    let judged = rw (c.from-middle.ensures, c.from-end.ensures, c.from.ensures, c.from-rule.ensures) at c.judge_call-v.ensures in
    record {
      others = changed_within inv.1 (omega arith);
      found = λ a ws vs t u small.
          pair_over (inv.2 a ws vs t u small) a.numbers inv.1 a.numbered (omega (arith, h, a.pairs_asked.counted)) c.if-lefts-first.true
          (its_verdict h c.record_at-r.ensures kept judged a ws vs t u small) c.noted-found.ensures c.if-found.true;
      numbers = λ a ws vs t u small o r. absurd (true≢false (sym c.if-found.true ∙ o));
    }

pub loop-i-preserved : goal.loop-i-preserved
loop-i-preserved c =
    let g = c.args in
    let h = c.loop-i-test.true in
    let inv = c.loop-i.invariant in
    elim c.if-lefts-first.branch [
      | then-lefts-first+else-found w ↦
          let kept : LeftKept g.pack.now.arities g.pack.now.nodes g.table.now g.pack.now.starts (Some w.record_at-r.result.a) w.if-ne.sums =
          elim w.if-ne.branch [
            | then-ne z ↦
                kept_as _ _ _ g.pack.now.starts refl z.sums-is
                (side_kept _ _ _ _ _ _ z.marked_side.ensures.long (rw (w.from-left.ensures, w.from-middle.ensures, w.from-rule.ensures) at z.marked_side.ensures.side_summed))
            | else-ne z ↦ kept_as _ _ _ g.pack.now.starts (ap (λ (n : ℕ). Some n) (sym w.from-rule.ensures) ∙ sym (same_rule c.loop-i.last w.from-rule.result z.if-ne.ensures)) z.sums-is inv.0
          ] in
          let last_is : w.if-ne.last ≡ Some w.record_at-r.result.a =
          elim w.if-ne.branch [
            | then-ne z ↦ z.last-is ∙ ap (λ (n : ℕ). Some n) w.from-rule.ensures
            | else-ne z ↦ z.last-is ∙ same_rule c.loop-i.last w.from-rule.result z.if-ne.ensures ∙ ap (λ (n : ℕ). Some n) w.from-rule.ensures
          ] in
          let judged = rw (w.from-middle.ensures, w.from-end.ensures, w.from.ensures, w.from-rule.ensures) at w.judge_call-v.ensures in
          rw (w.lefts-is ∙ w.renumber.ensures, w.sums-is, w.last-is, w.found-is) (
            kept_as _ _ _ _ last_is refl kept,
            one_changed c.loop-i.i _ inv.1 (omega arith),
            λ a ws vs t u small.
                pair_judged (inv.2 a ws vs t u small) a.numbers inv.1 a.numbered (omega (arith, h, a.pairs_asked.counted)) w.if-lefts-first.true
                (its_verdict h w.record_at-r.ensures kept judged a ws vs t u small) w.noted-found.ensures refl w.if-found.false,
          )
      | else-lefts-first w ↦
          rw (w.lefts-is, w.sums-is, w.last-is, w.found-is) (
            inv.0,
            changed_within inv.1 (omega arith),
            λ a ws vs t u small. pair_gone (inv.2 a ws vs t u small) a.numbers inv.1 a.numbered (omega (arith, h, a.pairs_asked.counted)) w.if-lefts-first.false,
          )
    ]

pub returns : goal.returns
returns c =
    let inv = c.loop-i.invariant in
    record {
      others = changed_within inv.1 (omega arith);
      found = λ a ws vs t u small. judged_all (inv.2 a ws vs t u small) (omega (arith, c.loop-i-test.false, a.pairs_asked.counted));
      numbers = λ a ws vs t u small o r.
          numbers_told (inv.2 a ws vs t u small) a.numbers inv.1 (omega (arith, c.loop-i-test.false, a.pairs_asked.counted)) r;
    }
