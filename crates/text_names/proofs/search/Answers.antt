-- `text_names::search` meets its contract. The loop's invariant: the names kept before lo are less, and none from hi on is.
use mathlib.Core.Path.{sym, ◌∙◌}
use Prim.Native.Nat.{ℕ, ◌+◌, ◌/◌, ◌≤◌, ◌<◌}
use native.Mathlib.Omega.{arith}
use Rattle.text_names.specs.Table.{most_kept, kept}
use Rattle.text_names.proofs.Keeping.{less_up_to, not_from}
use Rattle.text_names.proofs.search.Goals as goal

pub loop-lo-init : goal.loop-lo-init
loop-lo-init c = (omega arith, omega arith, λ i h. absurd (omega arith), λ i past h. absurd (omega arith))

pub overflow_add-m : goal.overflow_add-m
overflow_add-m c =
    let few : c.loop-lo.hi ≤ most_kept = omega (arith, c.loop-lo.invariant.1, c.requires.rising.few) in
    omega (arith, few, c.loop-lo-test.true)

pub overflow_add-lo : goal.overflow_add-lo
overflow_add-lo c =
    let few : c.loop-lo.hi ≤ most_kept = omega (arith, c.loop-lo.invariant.1, c.requires.rising.few) in
    omega (arith, few)

pub loop-lo-smaller-then-less_name : goal.loop-lo-smaller-then-less_name
loop-lo-smaller-then-less_name c = omega (arith, c.loop-lo-test.true)

pub loop-lo-preserved-then-less_name : goal.loop-lo-preserved-then-less_name
unfolding kept
loop-lo-preserved-then-less_name c =
    let middle : ℕ = (c.loop-lo.lo + c.loop-lo.hi) / 2 in
    let within : middle < c.args.table.now.count = omega (arith, c.loop-lo-test.true, c.loop-lo.invariant.1) in
    let l = c.loop-lo in
    let is = c.from.ensures in
    let q = c.requires in (
      omega (arith, c.loop-lo-test.true),
      l.invariant.1,
      less_up_to _ _ _ _ q.rising middle within _ (omega arith) (rw is at (sym c.less_name.ensures ∙ c.if-less_name.true)),
      l.invariant.3,
    )

pub loop-lo-smaller : goal.loop-lo-smaller
loop-lo-smaller c = omega (arith, c.loop-lo-test.true)

pub loop-lo-preserved : goal.loop-lo-preserved
unfolding kept
loop-lo-preserved c =
    let middle : ℕ = (c.loop-lo.lo + c.loop-lo.hi) / 2 in
    let within : middle < c.args.table.now.count = omega (arith, c.loop-lo-test.true, c.loop-lo.invariant.1) in
    let l = c.loop-lo in
    let is = c.from.ensures in
    let q = c.requires in (
      omega (arith, c.loop-lo-test.true),
      omega (arith, within),
      l.invariant.2,
      not_from _ _ _ _ q.rising middle within (rw is at (sym c.less_name.ensures ∙ c.if-less_name.false)),
    )

pub returns : goal.returns
returns c =
    let l = c.loop-lo in
    record {
      within = omega (arith, l.invariant.0, l.invariant.1);
      below = l.invariant.2;
      above = λ i past h. l.invariant.3 i (omega (arith, c.loop-lo-test.false)) h;
    }
