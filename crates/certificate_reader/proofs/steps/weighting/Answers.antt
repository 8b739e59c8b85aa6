-- `certificate_reader::steps::weighting` meets its contract: its tests are those of an L record, in their order.
use mathlib.Core.Path.{◌≡◌, refl, sym, ◌∙◌}
use mathlib.Core.Bool.{true, ◌&&◌}
use mathlib.Core.Option.{some}
use Prim.Native.Nat.{◌≤◌}
use native.Mathlib.Omega.{arith}
use borrow.Author.Tests.{eq-eqb, ne_eqb, le-leb, lt-leb}
use lib.Dec.{eqb}
use lib.ListN.{length}
use Rattle.records.specs.declared.Record.{Record}
use Rattle.records.specs.declared.Refusal.TheVariants.{StrayRecord}
use Rattle.records.specs.Order.{index}
use Rattle.certificates.specs.Components.{Component}
use Rattle.certificates.specs.CertificateReading.{CertificateReading, weighting_read}
use Rattle.certificate_reader.specs.Working.{Mirrors}
use Rattle.certificate_reader.proofs.Mirrored.{no_state, after_weight, stops, answers, begun_counted, weighting_mirrored}
use Rattle.certificate_reader.proofs.steps.weighting.Goals as goal

pub returns-then-r-ne0 : goal.returns-then-r-ne0
unfolding weighting_read
returns-then-r-ne0 c =
    record { on = no_state _ StrayRecord; means = λ x d m is due kind. rw (ne_eqb _ _ c.if-r-ne0.true) (stops StrayRecord) }

pub returns-then-from-s : goal.returns-then-from-s
unfolding weighting_read
returns-then-from-s c =
    record {
      on = no_state _ StrayRecord;
      means = λ x d m is due kind. rw (eq-eqb _ _ c.if-r-ne0.false, ← (begun_counted _ x d is m), ne_eqb _ _ (rw c.from.ensures at c.if-from-s.true)) (stops StrayRecord);
    }

pub returns-then-r-ne0-2 : goal.returns-then-r-ne0-2
unfolding weighting_read
returns-then-r-ne0-2 c =
    let r : Record = c.args.r in
    let numbered : (x : CertificateReading) (d : Component) → x.begun ≡ some d → Mirrors c.args.s x →
    eqb r.one 0 && eqb r.a (length d.weightings) ≡ true = (λ x d is m. rw (eq-eqb _ _ c.if-r-ne0.false, eq-eqb _ _ (sym c.from.ensures ∙ c.if-from-s.false ∙ begun_counted _ x d is m))) in
    record {
      on = no_state _ StrayRecord;
      means = λ x d m is due kind. rw (numbered x d is m, ne_eqb _ _ c.if-r-ne0-2.true) (stops StrayRecord);
    }

pub returns-then-r-ne0-3 : goal.returns-then-r-ne0-3
unfolding weighting_read
returns-then-r-ne0-3 c =
    let r : Record = c.args.r in
    let numbered : (x : CertificateReading) (d : Component) → x.begun ≡ some d → Mirrors c.args.s x →
    eqb r.one 0 && eqb r.a (length d.weightings) ≡ true = (λ x d is m. rw (eq-eqb _ _ c.if-r-ne0.false, eq-eqb _ _ (sym c.from.ensures ∙ c.if-from-s.false ∙ begun_counted _ x d is m))) in
    record {
      on = no_state _ StrayRecord;
      means = λ x d m is due kind. rw (numbered x d is m, eq-eqb _ _ c.if-r-ne0-2.false, ne_eqb _ _ c.if-r-ne0-3.true) (stops StrayRecord);
    }

pub returns-then-s-eq0 : goal.returns-then-s-eq0
unfolding weighting_read
returns-then-s-eq0 c =
    let r : Record = c.args.r in
    let numbered : (x : CertificateReading) (d : Component) → x.begun ≡ some d → Mirrors c.args.s x →
    eqb r.one 0 && eqb r.a (length d.weightings) ≡ true = (λ x d is m. rw (eq-eqb _ _ c.if-r-ne0.false, eq-eqb _ _ (sym c.from.ensures ∙ c.if-from-s.false ∙ begun_counted _ x d is m))) in
    let zeros : eqb r.b 0 && eqb r.c 0 ≡ true = rw (eq-eqb _ _ c.if-r-ne0-2.false, eq-eqb _ _ c.if-r-ne0-3.false) in
    record {
      on = no_state _ StrayRecord;
      means = λ x d m is due kind.
          let none_more : x.more ≡ 0 = sym m.more_is ∙ c.if-s-eq0.true in
          rw (numbered x d is m, zeros, lt-leb 1 x.more (omega arith)) (stops StrayRecord);
    }

pub overflow_add-result : goal.overflow_add-result
overflow_add-result c = omega (arith, c.requires.begun_small)

pub returns : goal.returns
unfolding weighting_read index
returns c =
    let r : Record = c.args.r in
    let numbered : (x : CertificateReading) (d : Component) → x.begun ≡ some d → Mirrors c.args.s x →
    eqb r.one 0 && eqb r.a (length d.weightings) ≡ true = (λ x d is m. rw (eq-eqb _ _ c.if-r-ne0.false, eq-eqb _ _ (sym c.from.ensures ∙ c.if-from-s.false ∙ begun_counted _ x d is m))) in
    let zeros : eqb r.b 0 && eqb r.c 0 ≡ true = rw (eq-eqb _ _ c.if-r-ne0-2.false, eq-eqb _ _ c.if-r-ne0-3.false) in
    let has = c.requires.weighted in
    record {
      on = after_weight _ _ (omega arith) (omega arith) refl has refl (omega arith);
      means = λ x d m is due kind.
          let some_more : 1 ≤ x.more = omega (arith, m.more_is, c.if-s-eq0.false) in
          rw (numbered x d is m, zeros, le-leb 1 x.more some_more, kind)
          (answers _ _ (weighting_mirrored _ x d is m has));
    }
