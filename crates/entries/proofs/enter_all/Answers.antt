-- `entries::enter_all` meets its contract. The loop's invariant: the entries have the pairs of the records passed.
use Rattle.std.proofs.Common.{◌≡◌, ◌∙◌, ℕ, ◌*◌, ◌/◌, ◌≤◌, ◌<◌, List, length}
use native.Mathlib.Omega.{arith}
use borrow.Author.Tests.{eq-eqb, ne_eqb}
use Rattle.records.specs.Records.{record_at}
use Rattle.entries.specs.declared.Entry.{Entry}
use Rattle.entries.proofs.Entering.{SoFar, Turn, start, ends, next_few, pair_entered, other_passed}
use Rattle.entries.proofs.enter_all.Goals.{then-r-eq80, else-r-eq80}
use Rattle.entries.proofs.enter_all.Goals as goal

-- the loop's state as a turn
abbrev turn : (bs : List ℕ) (i number count : ℕ) (es : List Entry) →
    (i ≤ length bs / 8) × (number ≤ i) × (count ≤ i) × (length es ≡ 2048) × SoFar bs i number count es → Turn bs
turn bs i number count es (within, few, fewer, long, so_far) = record {
  i = i;
  number = number;
  count = count;
  entries = es;
  within = within;
  few = few;
  fewer = fewer;
  long = long;
  so_far = so_far;
}

pub loop-i-init : goal.loop-i-init
loop-i-init c = (omega arith, omega arith, omega arith, c.requires.2, (start c.args.certificate.now c.args.entries.now c.requires.2).so_far)

pub loop-i-preserved : goal.loop-i-preserved
loop-i-preserved c =
    let bs = c.args.certificate.now in
    let t = turn bs _ _ _ _ c.loop-i.invariant in
    let more : t.i < length bs / 8 = c.loop-i-test.true in
    let is_r : c.from-r.result ≡ record_at bs (8 * t.i) = c.from-r.ensures ∙ c.word_at.ensures.record_is in
    let is_m = c.numbered-number.ensures in
    elim c.if-r-eq80.branch [
      | then-r-eq80 w ↦ (
        omega arith,
        next_few bs t more _ is_m,
        omega arith,
        rw w.entries-is (w.enter.auto.entries ∙ c.loop-i.invariant.3),
        rw (w.entries-is, w.count-is)
            (pair_entered bs t more is_r is_m (eq-eqb _ _ w.if-r-eq80.true) w.entry_of.ensures w.enter.ensures),
      )
      | else-r-eq80 w ↦ (
        omega arith,
        next_few bs t more _ is_m,
        omega arith,
        rw w.entries-is c.loop-i.invariant.3,
        rw (w.entries-is, w.count-is) (other_passed bs t more is_r is_m (ne_eqb _ _ w.if-r-eq80.false)),
      )
    ]

pub returns : goal.returns
returns c = let bs = c.args.certificate.now in ends bs (turn bs _ _ _ _ c.loop-i.invariant) c.loop-i-test.false
