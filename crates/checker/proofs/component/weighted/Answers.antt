-- `checker::component::weighted` meets its contract. The loop's invariant: the weightings before number `number` have passed, and what is
-- known then of the others and of the numbers.
use mathlib.Core.Path.{◌≡◌, refl, ap}
use mathlib.Core.List.{List}
use Prim.Native.Nat.{ℕ, ◌-◌, ◌/◌, ◌≤◌, ◌<◌}
use native.Mathlib.Omega.{arith}
use lib.ListN.{length}
use Rattle.std.specs.Prelude.{Option, Err}
use Rattle.std.proofs.lemmas.Result.{err_from_is_err_and}
use Rattle.checker.specs.declared.component.Found.{Found}
use Rattle.checker.specs.Working.{ComponentJudged, WeightedAsked}
use Rattle.checker.proofs.Positions.{header_within}
use Rattle.checker.proofs.Tallies.{none_changed}
use Rattle.checker.proofs.Weightings.{refused_untold, from_small, others_both, starts, last_told, asked, refuses, goes_on, passes, knows, numbers_tell}
use Rattle.checker.proofs.component.weighted.Goals as goal

-- the number of the next record
small : {cert : List ℕ} {at count weightings first : ℕ} {before : Option ℕ} {rules : ℕ} {ar ss ns table lefts : List ℕ} →
    WeightedAsked cert at count weightings first before rules ar ss ns table lefts → (at < length cert / 8) × (count ≤ 2048) × (weightings ≤ 8) × (length cert ≤ 24576)
small a = (header_within a.there.stands, omega (arith, a.fits.pairs_few, a.counted), omega (arith, a.fits.few, a.weightings_are), a.there.file.short)

pub overflow_add-from : goal.overflow_add-from
overflow_add-from c = record { fits = omega (arith, small c.requires) }

pub overflow_add-from-2 : goal.overflow_add-from-2
overflow_add-from-2 c = record { fits = omega (arith, small c.requires) }

pub loop-number-init : goal.loop-number-init
loop-number-init c = (c.requires.unmarked, none_changed _ _ _, λ a. starts a)

pub overflow_add-last : goal.overflow_add-last
overflow_add-last c = record { fits = omega (arith, c.loop-number-test.true, small c.requires) }

pub one_weighting-requires : goal.one_weighting-requires
one_weighting-requires c = asked c.requires (c.loop-number.invariant.2 c.requires) c.loop-number-test.true c.loop-number.invariant.0 _ refl refl

pub returns-in_err-next : goal.returns-in_err-next
returns-in_err-next c =
    let l = c.loop-number in
    let judged = c.in_err-next.ensures in
    let stops : (a : WeightedAsked c.args.certificate.now c.args.at c.args.count c.args.weightings c.args.first c.args.before c.args.pack.now.rules c.args.pack.now.arities c.args.pack.now.starts c.args.pack.now.nodes c.args.table.now c.args.lefts.now) →
    ComponentJudged a.asked.kept.system a.there.component c.args.at (Err c.in_err-next.field-0.0) =
    λ a. let s = l.invariant.2 a in
    let more = c.loop-number-test.true in
    refuses a s more l.invariant.0 _ refl refl (last_told a s more l.invariant.0) judged _ refl in
    let p = err_from_is_err_and c.from_residual.result c.from_residual.ensures.1 in
    rw (p.1, p.2)
    (record {
      unmarked = judged.unmarked;
      others = others_both l.invariant.1 judged.others;
      judged = stops;
      known = λ a f is. cc;
      numbers = λ a h. refused_untold _ _ _ _ (stops a) h;
    })

pub overflow_add-from-in-loop-number : goal.overflow_add-from-in-loop-number
overflow_add-from-in-loop-number c =
    let l = c.loop-number in
    let more = c.loop-number-test.true in
    let a = c.requires in
    let s = l.invariant.2 a in
    record {
      fits =
          omega (
            arith,
            from_small a (goes_on a s more l.invariant.0 _ refl refl (last_told a s more l.invariant.0) c.in_ok-next.ensures _ refl),
            small a,
          );
    }

pub loop-number-preserved : goal.loop-number-preserved
loop-number-preserved c =
    let l = c.loop-number in
    let more = c.loop-number-test.true in
    let judged = c.in_ok-next.ensures in (
      judged.unmarked,
      others_both l.invariant.1 judged.others,
      λ a. let s = l.invariant.2 a in goes_on a s more l.invariant.0 _ refl refl (last_told a s more l.invariant.0) judged _ refl,
    )

pub overflow_sub-result : goal.overflow_sub-result
overflow_sub-result c = let some = (c.loop-number.invariant.2 c.requires).after_pairs in omega arith

pub returns : goal.returns
returns c =
    let so_far = c.loop-number.invariant.2 in
    let all = c.loop-number-test.false in
    record {
      unmarked = c.loop-number.invariant.0;
      others = c.loop-number.invariant.1;
      judged = λ a. passes a (so_far a) all _ (let some = (so_far a).after_pairs in omega arith);
      known = λ a f is.
          let same : ◌≡◌ {A = Found} (record { next = c.loop-number.from - 1; weights = c.loop-number.weights }) f = cc in
          let weights : c.loop-number.weights ≡ f.weights = ap (λ (x : Found). x.weights) same in
          rw (← weights) (knows a (so_far a) all);
      numbers = λ a h. numbers_tell a (so_far a) all;
    }
