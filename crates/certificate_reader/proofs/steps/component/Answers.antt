-- `certificate_reader::steps::component` meets its contract: its tests are those of a C record, in their order.
use mathlib.Core.Path.{◌≡◌, refl}
use mathlib.Core.Bool.{true, ◌&&◌, not}
use mathlib.Core.Logic.{⊎_elim}
use Prim.Native.Nat.{◌≤◌}
use native.Mathlib.Omega.{arith}
use borrow.Author.Tests.{eq-eqb, ne_eqb, le-leb, lt-leb, lt-ltb}
use lib.Dec.{ltb, eqb}
use lib.ListN.{length}
use Rattle.records.specs.declared.Record.{Record}
use Rattle.records.specs.declared.Refusal.TheVariants.{StrayRecord, OutOfRange}
use Rattle.records.specs.Order.{index}
use Rattle.certificate_reader.specs.declared.State.{State}
use Rattle.certificates.specs.CertificateReading.{CertificateReading, components_of, component_read}
use Rattle.certificate_reader.specs.Working.{Mirrors}
use Rattle.certificates.proofs.OneRecord.{counts_alone}
use Rattle.certificate_reader.proofs.Mirrored.{no_state, after_component, stops, answers, none_missing, some_missing, first_few, component_mirrored}
use Rattle.certificate_reader.proofs.steps.component.Goals as goal

pub returns-then-s-ne0 : goal.returns-then-s-ne0
unfolding component_read
returns-then-s-ne0 c =
    record { on = no_state _ StrayRecord; means = λ x m k. rw (some_missing _ x m c.if-s-ne0.true) (stops StrayRecord) }

pub returns-then-r-ne0 : goal.returns-then-r-ne0
unfolding component_read
returns-then-r-ne0 c =
    record {
      on = no_state _ StrayRecord;
      means = λ x m k. rw (none_missing _ x m c.if-s-ne0.false, ne_eqb _ _ c.if-r-ne0.true) (stops StrayRecord);
    }

pub returns-then-from-s : goal.returns-then-from-s
unfolding component_read
returns-then-from-s c =
    let r : Record = c.args.r in
    let s : State = c.args.s in
    let no_more : (x : CertificateReading) → Mirrors s x → eqb x.more 0 ≡ true = (λ x m. none_missing s x m c.if-s-ne0.false) in
    let zero_one : eqb r.one 0 ≡ true = eq-eqb _ _ c.if-r-ne0.false in
    record {
      on = no_state _ StrayRecord;
      means = λ x m k. rw (no_more x m, zero_one, ← m.number_is, ne_eqb _ _ (rw c.from.ensures at c.if-from-s.true)) (stops StrayRecord);
    }

pub returns-then-r-gt1 : goal.returns-then-r-gt1
unfolding component_read
returns-then-r-gt1 c =
    let r : Record = c.args.r in
    let s : State = c.args.s in
    let no_more : (x : CertificateReading) → Mirrors s x → eqb x.more 0 ≡ true = (λ x m. none_missing s x m c.if-s-ne0.false) in
    let zero_one : eqb r.one 0 ≡ true = eq-eqb _ _ c.if-r-ne0.false in
    record {
      on = no_state _ StrayRecord;
      means = λ x m k.
          rw (no_more x m, zero_one, ← m.number_is, eq-eqb _ _ (rw c.from.ensures at c.if-from-s.false), eq-eqb _ _ c.if-r-eq0.true, lt-ltb _ _ c.if-r-gt1.true)
          (stops StrayRecord);
    }

pub returns-then-r-gt-MOST_WEIGHTINGS : goal.returns-then-r-gt-MOST_WEIGHTINGS
unfolding component_read
returns-then-r-gt-MOST_WEIGHTINGS c =
    let r : Record = c.args.r in
    let s : State = c.args.s in
    let no_more : (x : CertificateReading) → Mirrors s x → eqb x.more 0 ≡ true = (λ x m. none_missing s x m c.if-s-ne0.false) in
    let zero_one : eqb r.one 0 ≡ true = eq-eqb _ _ c.if-r-ne0.false in
    let alone : r.b ≡ 0 → r.c ≤ 1 = (λ z. ⊎_elim (λ w. w.if-r-gt1.false) (λ w. absurd (w.if-r-eq0.false z)) c.if-r-eq0.branch-raw) in
    let no_stray : (x : CertificateReading) → Mirrors s x →
    (eqb x.more 0 && (eqb r.one 0 && eqb r.a (length (components_of x)))) && not (eqb r.b 0 && ltb 1 r.c) ≡ true = (λ x m. rw (no_more x m, zero_one, ← m.number_is, eq-eqb _ _ (rw c.from.ensures at c.if-from-s.false), counts_alone r.b r.c alone)) in
    record { on = no_state _ OutOfRange; means = λ x m k. rw (no_stray x m, lt-leb _ _ c.if-r-gt-MOST_WEIGHTINGS.true) (stops OutOfRange) }

pub returns-then-r-lt1 : goal.returns-then-r-lt1
unfolding component_read
returns-then-r-lt1 c =
    let r : Record = c.args.r in
    let s : State = c.args.s in
    let no_more : (x : CertificateReading) → Mirrors s x → eqb x.more 0 ≡ true = (λ x m. none_missing s x m c.if-s-ne0.false) in
    let zero_one : eqb r.one 0 ≡ true = eq-eqb _ _ c.if-r-ne0.false in
    let alone : r.b ≡ 0 → r.c ≤ 1 = (λ z. ⊎_elim (λ w. w.if-r-gt1.false) (λ w. absurd (w.if-r-eq0.false z)) c.if-r-eq0.branch-raw) in
    let no_stray : (x : CertificateReading) → Mirrors s x →
    (eqb x.more 0 && (eqb r.one 0 && eqb r.a (length (components_of x)))) && not (eqb r.b 0 && ltb 1 r.c) ≡ true = (λ x m. rw (no_more x m, zero_one, ← m.number_is, eq-eqb _ _ (rw c.from.ensures at c.if-from-s.false), counts_alone r.b r.c alone)) in
    record { on = no_state _ OutOfRange; means = λ x m k. rw (no_stray x m, le-leb _ _ c.if-r-gt-MOST_WEIGHTINGS.false, lt-leb _ _ c.if-r-lt1.true) (stops OutOfRange) }

pub returns-then-r-gt-MOST_PAIRS : goal.returns-then-r-gt-MOST_PAIRS
unfolding component_read
returns-then-r-gt-MOST_PAIRS c =
    let r : Record = c.args.r in
    let s : State = c.args.s in
    let no_more : (x : CertificateReading) → Mirrors s x → eqb x.more 0 ≡ true = (λ x m. none_missing s x m c.if-s-ne0.false) in
    let zero_one : eqb r.one 0 ≡ true = eq-eqb _ _ c.if-r-ne0.false in
    let alone : r.b ≡ 0 → r.c ≤ 1 = (λ z. ⊎_elim (λ w. w.if-r-gt1.false) (λ w. absurd (w.if-r-eq0.false z)) c.if-r-eq0.branch-raw) in
    let no_stray : (x : CertificateReading) → Mirrors s x →
    (eqb x.more 0 && (eqb r.one 0 && eqb r.a (length (components_of x)))) && not (eqb r.b 0 && ltb 1 r.c) ≡ true = (λ x m. rw (no_more x m, zero_one, ← m.number_is, eq-eqb _ _ (rw c.from.ensures at c.if-from-s.false), counts_alone r.b r.c alone)) in
    record {
      on = no_state _ OutOfRange;
      means = λ x m k. rw (no_stray x m, le-leb _ _ c.if-r-gt-MOST_WEIGHTINGS.false, le-leb _ _ c.if-r-lt1.false, lt-leb _ _ c.if-r-gt-MOST_PAIRS.true) (stops OutOfRange);
    }

pub returns : goal.returns
unfolding component_read index
returns c =
    let r : Record = c.args.r in
    let s : State = c.args.s in
    let no_more : (x : CertificateReading) → Mirrors s x → eqb x.more 0 ≡ true = (λ x m. none_missing s x m c.if-s-ne0.false) in
    let zero_one : eqb r.one 0 ≡ true = eq-eqb _ _ c.if-r-ne0.false in
    let alone : r.b ≡ 0 → r.c ≤ 1 = (λ z. ⊎_elim (λ w. w.if-r-gt1.false) (λ w. absurd (w.if-r-eq0.false z)) c.if-r-eq0.branch-raw) in
    let no_stray : (x : CertificateReading) → Mirrors s x →
    (eqb x.more 0 && (eqb r.one 0 && eqb r.a (length (components_of x)))) && not (eqb r.b 0 && ltb 1 r.c) ≡ true = (λ x m. rw (no_more x m, zero_one, ← m.number_is, eq-eqb _ _ (rw c.from.ensures at c.if-from-s.false), counts_alone r.b r.c alone)) in
    let first = c.first-begun.ensures.0 in
    rw (c.from-2.ensures, c.from-3.ensures, c.from-4.ensures) record {
      on = after_component _ _ refl c.if-r-lt1.false refl (omega (arith, first, first_few r.b));
      means = λ x m k.
          rw (no_stray x m, le-leb _ _ c.if-r-gt-MOST_WEIGHTINGS.false, le-leb _ _ c.if-r-lt1.false, le-leb _ _ c.if-r-gt-MOST_PAIRS.false, k)
          (answers _ _ (component_mirrored _ x _ _ _ first m));
    }
