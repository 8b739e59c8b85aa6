-- `certificate_reader::steps::marked` meets its contract: its tests are those of an M record, in their order.
use mathlib.Core.Path.{◌≡◌, refl, sym, ◌∙◌}
use mathlib.Core.Bool.{true}
use Prim.Native.Nat.{◌<◌}
use native.Mathlib.Omega.{arith}
use borrow.Author.Tests.{eq-eqb, ne_eqb}
use lib.Dec.{eqb}
use Rattle.records.specs.declared.Refusal.TheVariants.{StrayRecord, OutOfRange}
use Rattle.records.specs.Order.{index}
use Rattle.certificates.specs.CertificateReading.{weights_below, marked_read}
use Rattle.certificate_reader.specs.Working.{Tells}
use Rattle.certificate_reader.proofs.FromStore.{marked_place_stored}
use Rattle.certificate_reader.proofs.Keys.{by_key, at_most}
use Rattle.certificate_reader.proofs.Mirrored.{no_state, after_weight, stops, answers, marked_told, marked_mirrored}
use Rattle.certificate_reader.proofs.steps.marked.Goals as goal

pub returns-then-r-ne0 : goal.returns-then-r-ne0
unfolding marked_read
returns-then-r-ne0 c =
    record { on = no_state _ StrayRecord; means = λ p x d stored m is due kind. rw (ne_eqb _ _ c.if-r-ne0.true) (stops StrayRecord) }

pub returns-then-le : goal.returns-then-le
unfolding marked_read weights_below Tells
returns-then-le c =
    let zero_one : eqb c.args.r.one 0 ≡ true = eq-eqb _ _ c.if-r-ne0.false in
    let small : c.args.r.b < 65536 = omega arith in
    record {
      on = no_state _ StrayRecord;
      means = λ p x d stored m is due kind. rw (zero_one, by_key _ _ _ _ _ _ _ (marked_told _ x d is m) small c.key-k.ensures.is, at_most _ _ c.le.ensures c.if-le.true) (stops StrayRecord);
    }

pub returns-then-not-is_marked_place : goal.returns-then-not-is_marked_place
unfolding marked_read weights_below Tells
returns-then-not-is_marked_place c =
    let zero_one : eqb c.args.r.one 0 ≡ true = eq-eqb _ _ c.if-r-ne0.false in
    let small : c.args.r.b < 65536 = omega arith in
    record {
      on = no_state _ OutOfRange;
      means = λ p x d stored m is due kind.
          let none = marked_place_stored p _ _ _ _ _ _ stored c.args.r.a c.args.r.b ∙ sym c.is_marked_place.ensures ∙ c.if-not-is_marked_place.true in
          rw (zero_one, by_key _ _ _ _ _ _ _ (marked_told _ x d is m) small c.key-k.ensures.is, at_most _ _ c.le.ensures c.if-le.false, none) (stops OutOfRange);
    }

pub returns : goal.returns
unfolding marked_read index weights_below Tells
returns c =
    let zero_one : eqb c.args.r.one 0 ≡ true = eq-eqb _ _ c.if-r-ne0.false in
    let small : c.args.r.b < 65536 = omega arith in
    let has = c.requires.weighted in
    record {
      on = after_weight _ _ (omega arith) (omega arith) refl has refl (omega arith);
      means = λ p x d stored m is due kind.
          let one = marked_place_stored p _ _ _ _ _ _ stored c.args.r.a c.args.r.b ∙ sym c.is_marked_place.ensures ∙ c.if-not-is_marked_place.false in
          rw (zero_one, by_key _ _ _ _ _ _ _ (marked_told _ x d is m) small c.key-k.ensures.is, at_most _ _ c.le.ensures c.if-le.false, one, kind)
          (answers _ _ (marked_mirrored _ x d is m _ _ _ c.key-k.ensures.is small _ has));
    }
