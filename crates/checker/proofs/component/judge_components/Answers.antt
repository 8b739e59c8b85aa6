-- `checker::component::judge_components` meets its contract. The loop's invariant: the records of the components from component i on
-- stand from record `at` on, their number is the number of all, what is known of the rules under the last weights, and what the numbers
-- of the pairs before them tell.
use mathlib.Core.Path.{◌≡◌, refl, sym, ◌∙◌}
use native.Mathlib.Omega.{arith}
use Rattle.std.proofs.lemmas.Result.{err_from_is_err_and}
use Rattle.records.specs.Answers.{number_of}
use Rattle.records.proofs.Outcomes.{number_some}
use Rattle.judging.specs.Judges.{plain}
use Rattle.judging.specs.Judge.{components_refusal}
use Rattle.checker.specs.Working.{ComponentsAsked}
use Rattle.checker.proofs.Positions.{header_within, pairs_read}
use Rattle.checker.proofs.Known.{none_known}
use Rattle.checker.proofs.Tables.{no_weights}
use Rattle.checker.proofs.Components.{all_left, none_left, all_told, there, room, asked, refuses, goes_on}
use Rattle.checker.proofs.component.judge_components.Goals as goal

pub loop-i-init : goal.loop-i-init
loop-i-init c = (no_weights 576 (omega arith), λ a. all_left a (none_known a.kept.system _))

pub overflow_mul-at : goal.overflow_mul-at
overflow_mul-at c =
    let a = c.requires in
    record { fits = omega (arith, header_within (there a (c.loop-i.invariant.1 a) c.loop-i-test.true).stands, a.file.short) }

pub record_at-header-requires : goal.record_at-header-requires
record_at-header-requires c =
    let a = c.requires in omega (arith, header_within (there a (c.loop-i.invariant.1 a) c.loop-i-test.true).stands)

pub judge_component-requires : goal.judge_component-requires
judge_component-requires c =
    let a = c.requires in
    asked a (c.loop-i.invariant.1 a) c.loop-i-test.true c.record_at-header.ensures c.loop-i.invariant.0

pub returns-in_err-found : goal.returns-in_err-found
returns-in_err-found c =
    let Asked : Type 0 = ComponentsAsked c.args.certificate.now c.args.components c.args.pack.now.rules c.args.pack.now.arities c.args.pack.now.starts c.args.pack.now.nodes c.args.pack.now.defined c.args.lefts.now in
    let l = c.loop-i in
    let x = c.in_err-found.field-0.0 in
    let number : (a : Asked) → number_of x ≡ components_refusal a.kept.system (plain a.kept.system) a.all =
    λ a. refuses a (l.invariant.1 a) c.loop-i-test.true c.record_at-header.ensures l.invariant.0 c.in_err-found.ensures _ refl in
    let p = err_from_is_err_and c.from_residual.result c.from_residual.ensures.1 in
    rw (p.1, p.2) (record { judged = number; numbers = λ a accepted. absurd (omega (arith, number_some x, number a, accepted)) })

pub overflow_add-first : goal.overflow_add-first
overflow_add-first c =
    let l = c.loop-i in
    let a = c.requires in
    let h = c.loop-i-test.true in
    let pairs = pairs_read (there a (l.invariant.1 a) h).stands c.record_at-header.ensures in
    record { fits = omega (arith, room a (l.invariant.1 a) h) }

pub loop-i-preserved : goal.loop-i-preserved
loop-i-preserved c =
    let l = c.loop-i in (
      c.in_ok-found.ensures.unmarked,
      λ a.
          goes_on a (l.invariant.1 a) c.loop-i-test.true c.record_at-header.ensures l.invariant.0 c.in_ok-found.ensures _ refl
          (pairs_read (there a (l.invariant.1 a) c.loop-i-test.true).stands c.record_at-header.ensures ∙ sym c.from-first.ensures),
    )

pub returns : goal.returns
returns c =
    record {
      judged = λ a. none_left a (c.loop-i.invariant.1 a) c.loop-i-test.false;
      numbers = λ a h. all_told a (c.loop-i.invariant.1 a) c.loop-i-test.false;
    }
