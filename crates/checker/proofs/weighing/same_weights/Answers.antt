-- `checker::weighing::same_weights` meets its contract. The loop's invariant, for any weights that stand at the two places: if those
-- that are left of them are the same, so are all.
use mathlib.Core.Path.{◌≡◌, refl, sym, ap, ◌∙◌}
use mathlib.Core.List.{List, ◌∷◌}
use Prim.Native.Nat.{ℕ, ◌+◌, ◌*◌, ◌/◌, ◌≤◌, ◌<◌}
use native.Mathlib.Omega.{arith}
use lib.ListN.{length}
use Rattle.records.specs.declared.Record.{Record}
use Rattle.records.specs.Records.{a_record, record_at, fields}
use Rattle.records.specs.Order.{w_weight}
use Rattle.polynomials.specs.Polynomials.{Weight}
use Rattle.checker.specs.Working.{WeightsAt, SameWeights}
use Rattle.checker.proofs.Runs.{GoesOn, none_at_end, none_at_other, goes_on}
use Rattle.checker.proofs.weighing.same_weights.Invariants.{Alike}
use Rattle.checker.proofs.weighing.same_weights.Goals as goal

at_first : {cert : List ℕ} {before from : ℕ} {vs ws : List Weight} → WeightsAt cert before w_weight vs → WeightsAt cert from w_weight ws →
    Alike cert from before from vs ws
at_first {vs = vs} {ws = ws} a b = record { vs_left = vs; ws_left = ws; vs_stand = a; ws_stand = b; passed = refl; alike = λ e. e }

-- equal records are those of one weight
same_weight : {kind : ℕ} (v w : Weight) → a_record kind v.symbol v.place v.value ≡ a_record kind w.symbol w.place w.value → v ≡ w
same_weight v w e = λ i. record { symbol = (e i).a; place = (e i).b; value = (e i).c }

module _ {cert : List ℕ} {from i at : ℕ} {vs ws : List Weight} (s : Alike cert from i at vs ws) (h : i < length cert / 8) (k : at < length cert / 8) where
  -- both end here
  both_end : {x y : Record} → x ≡ record_at cert (8 * i) → y ≡ record_at cert (8 * at) → (x.kind ≡ w_weight → ⊥) → (y.kind ≡ w_weight → ⊥) → SameWeights vs ws from at
  both_end x_read y_read x_other y_other =
      let x_none = none_at_other s.vs_stand h x_read x_other in
      let y_none = none_at_other s.ws_stand k y_read y_other in
      record { same = s.alike (x_none ∙ sym y_none); passed = omega (arith, s.passed, ap length y_none) }

  -- one record stands at both places
  both_go_on : {r : Record} → r ≡ record_at cert (8 * i) → r ≡ record_at cert (8 * at) → r.kind ≡ w_weight → Alike cert from (i + 1) (at + 1) vs ws
  both_go_on {r} x_read y_read is = go (goes_on s.vs_stand h x_read is) (goes_on s.ws_stand k y_read is)
    where
      go : GoesOn cert i w_weight r s.vs_left → GoesOn cert at w_weight r s.ws_left → Alike cert from (i + 1) (at + 1) vs ws
      go v w =
          let first : v.first ≡ w.first = same_weight v.first w.first (sym v.is ∙ w.is) in
          record {
            vs_left = v.others;
            ws_left = w.others;
            vs_stand = v.next;
            ws_stand = w.next;
            passed = omega (arith, s.passed, ap length w.both);
            alike = λ e. s.alike (v.both ∙ (λ n. first n ∷ e n) ∙ sym w.both);
          }

-- the second ones end the file, and the first end here
file_ends : {cert : List ℕ} {from i at : ℕ} {vs ws : List Weight} → Alike cert from i at vs ws → i < length cert / 8 → length cert / 8 ≤ at → {x : Record} →
    x ≡ record_at cert (8 * i) → (x.kind ≡ w_weight → ⊥) → SameWeights vs ws from at
file_ends s h past x_read x_other =
    let x_none = none_at_other s.vs_stand h x_read x_other in
    let y_none = none_at_end s.ws_stand past in
    record { same = s.alike (x_none ∙ sym y_none); passed = omega (arith, s.passed, ap length y_none) }

pub loop-at-init : goal.loop-at-init
loop-at-init c = (c.requires, λ vs ws a b. at_first a b)

pub returns-then-x-y : goal.returns-then-x-y
returns-then-x-y c =
    let l = c.loop-at in
    record {
      agree = λ vs ws a b.
          both_end (l.invariant.1 vs ws a b) (omega (arith, l.invariant.0)) c.loop-at-test.true (c.from.ensures ∙ c.word_at-x.ensures.record_is)
          (c.from-else-from-eq87.ensures ∙ c.word_at-y.ensures.record_is) c.if-from-eq87.false c.if-from-eq87-2.false;
    }

pub returns-then-from-ne87 : goal.returns-then-from-ne87
returns-then-from-ne87 c =
    let r : Record = c.from-in-loop-at.result in
    let here : r ≡ record_at c.args.certificate.now (8 * c.loop-at.i) = c.from-in-loop-at.ensures ∙ c.word_at-x.ensures.record_is in
    let there : r ≡ record_at c.args.certificate.now (8 * c.loop-at.at) = c.from-in-loop-at.ensures ∙ ap fields c.if-x-y.false ∙ c.word_at-y.ensures.record_is in
    let l = c.loop-at in
    record {
      agree = λ vs ws a b.
          both_end (l.invariant.1 vs ws a b) (omega (arith, l.invariant.0)) c.loop-at-test.true here there c.if-from-ne87.true
          c.if-from-ne87.true;
    }

pub loop-at-preserved : goal.loop-at-preserved
loop-at-preserved c =
    let r : Record = c.from-in-loop-at.result in
    let here : r ≡ record_at c.args.certificate.now (8 * c.loop-at.i) = c.from-in-loop-at.ensures ∙ c.word_at-x.ensures.record_is in
    let there : r ≡ record_at c.args.certificate.now (8 * c.loop-at.at) = c.from-in-loop-at.ensures ∙ ap fields c.if-x-y.false ∙ c.word_at-y.ensures.record_is in
    let l = c.loop-at in (
      omega (arith, l.invariant.0),
      λ vs ws a b.
          both_go_on (l.invariant.1 vs ws a b) (omega (arith, l.invariant.0)) c.loop-at-test.true here there c.if-from-ne87.false,
    )

pub returns-then-x-ne87 : goal.returns-then-x-ne87
returns-then-x-ne87 c =
    let l = c.loop-at in
    record {
      agree = λ vs ws a b. file_ends (l.invariant.1 vs ws a b) c.if-i-n.true c.loop-at-test.false c.record_at-x.ensures c.if-x-ne87.true;
    }
