-- `weights::form_at` meets its contract.
use mathlib.Core.Path.{◌≡◌, refl, sym, ◌∙◌}
use mathlib.Core.Bool.{Bool, true, false}
use mathlib.Core.List.{List}
use Prim.Native.Nat.{ℕ, ◌+◌, ◌*◌, ◌-◌, ◌≤◌, ◌<◌}
use native.Mathlib.Omega.{arith}
use lib.Dec.{ltb}
use lib.ListN.{length, get_or, set, replicate}
use Rattle.terms.specs.Kept.{code_arity}
use Rattle.polynomials.specs.Limit.{limit, any_above}
use Rattle.weights.specs.Sums.{Sums, AddsTo, capped}
use Rattle.weights.specs.Working.{Weighable}
use Rattle.weights.proofs.Arguments.{node_within, root_symbol}
use Rattle.weights.proofs.Adding.{limit_room, part_small, capped_small}
use Rattle.weights.proofs.Weighing.{adds_sums}
use Rattle.weights.proofs.Walking.{Weighed, arity_is, variable_weighed, constant_weighed, call_weighed, code_small, unweighed_all, next_inside, next_argument, FormedAs, zero_skipped, zero_over, zero_within, root_over, root_alone, then_within, argument_passes, argument_last}
use Rattle.weights.proofs.+form_at.Goals.{then-c-ge-MOST_SYMBOLS, else-c-ge-MOST_SYMBOLS+then-arities-c-eq0, else-c-ge-MOST_SYMBOLS+else-arities-c-eq0}
use Rattle.weights.proofs.+form_at.Invariants.{Underway}
use Rattle.weights.proofs.+form_at.Goals as goal

-- UNDER THE FACTOR 0

pub returns-then-skips : goal.returns-then-skips
returns-then-skips t c =
    let a = c.args in
    let f =
    zero_skipped _ _ a.table.now _ _ a.row a.factor a.skips a.sums.now c.requires.4 c.requires.1
    c.if-factor-eq0.true c.if-skips.true _
    (λ w.
    c.skip.ensures
    (record { system = w.system; term = w.term; arities_are = w.arities_are; arities_few = w.arities_few; is = w.is; kept = w.kept })) in
    record { bounded = (f.long, f.within); ends = f.ends; means = f.means }

pub form_at-after-requires : goal.form_at-after-requires
unfolding any_above limit
form_at-after-requires t c =
    (omega (arith, c.decreases, c.if-factor-eq0.true), (c.requires.0, c.requires.1, c.requires.2, omega arith, record { long = refl; within = refl }, c.requires.5))

pub returns-then-over-clause-means : goal.returns-then-over-clause-means
returns-then-over-clause-means t c =
    let a = c.args in
    let e = c.form_at-after.ensures in
    let fresh : FormedAs a.arities.now a.nodes.now a.table.now a.at a.end a.row 1 false (replicate 17 0) c.form_at-after.new.sums c.form_at-after.result =
    record { long = e.bounded.0; within = e.bounded.1; ends = e.ends; means = e.means } in
    let f =
    zero_over _ _ a.table.now _ _ a.row a.factor a.skips a.sums.now c.requires.4 c.requires.1
    c.if-factor-eq0.true _ _ fresh (sym c.over.ensures ∙ c.if-over.true) in
    rw c.set_over.ensures f.means

pub returns-else-over-clause-means : goal.returns-else-over-clause-means
returns-else-over-clause-means t c =
    let a = c.args in
    let e = c.form_at-after.ensures in
    let fresh : FormedAs a.arities.now a.nodes.now a.table.now a.at a.end a.row 1 false (replicate 17 0) c.form_at-after.new.sums c.form_at-after.result =
    record { long = e.bounded.0; within = e.bounded.1; ends = e.ends; means = e.means } in
    let f =
    zero_within _ _ a.table.now _ _ a.row a.factor a.skips a.sums.now c.requires.4 c.requires.1
    c.if-factor-eq0.true _ _ fresh (sym c.over.ensures ∙ c.if-over.false) in
    f.means

-- THE ROOT

pub overflow_mul-factor : goal.overflow_mul-factor
overflow_mul-factor t c = omega (arith, part_small _ c.from.result c.requires.3 (omega arith))

pub add-requires : goal.add-requires
add-requires t c = (omega arith, c.requires.4, part_small _ c.from.result c.requires.3 (omega arith))

pub returns-then-over-2-clause-means : goal.returns-then-over-2-clause-means
returns-then-over-2-clause-means t c =
    let a = c.args in
    let f =
    root_over _ _ a.table.now _ _ a.row a.factor a.skips a.sums.now c.requires.4 c.requires.1 _
    (rw (← c.from.ensures) c.add.ensures) (sym c.over-2.ensures ∙ c.if-over-2.true) a.at in
    f.means

pub bounds-nodes-at : goal.bounds-nodes-at
bounds-nodes-at t c = omega (arith, c.requires.5, (node_within _ _ _ _ c.requires.0).0)

pub returns-then-n-eq0 : goal.returns-then-n-eq0
returns-then-n-eq0 t c =
    let a = c.args in
    let f =
    root_alone _ _ a.table.now _ _ a.row a.factor a.skips a.sums.now c.requires.4 c.requires.1 _
    (rw (← c.from.ensures) c.add.ensures) (sym c.over-2.ensures ∙ c.if-over-2.false) (omega (arith, c.if-factor-eq0.false))
    (sym (arity_is _ _ c.requires.1) ∙ sym (rw c.from-2.ensures at c.from-n.ensures) ∙ c.if-n-eq0.true) in
    record { bounded = (f.long, f.within); ends = f.ends; means = f.means }

pub loop-i-init : goal.loop-i-init
loop-i-init t c =
    let a = c.args in
    let added : AddsTo false (set a.sums.now 0 (get_or a.sums.now 0 0 + a.factor * get_or a.table.now a.row 0)) c.add.new.sums =
    rw (← c.from.ensures) c.add.ensures in
    let within : ltb limit (get_or c.add.new.sums 0 0) ≡ false = sym c.over-2.ensures ∙ c.if-over-2.false in
    let n : c.from-n.result ≡ code_arity a.arities.now (get_or a.nodes.now a.at 0) = rw c.from-2.ensures at c.from-n.ensures ∙ arity_is _ _ c.requires.1 in
    record {
      few = omega (arith, n, (root_symbol _ _ _ _ c.requires.0 c.requires.1).few_arguments);
      begun = omega arith;
      more = omega (arith, c.if-n-eq0.false);
      factor_some = omega (arith, c.if-factor-eq0.false);
      within = adds_sums false _ _ added within;
      unweighed = λ w.
          rw n
          (unweighed_all a.arities.now a.nodes.now a.table.now a.at a.end w a.row a.factor a.skips a.sums.now c.requires.1 c.requires.4.long _
          (added.are within));
    }

-- AN ARGUMENT

module _
    {arities nodes table : List ℕ} {at end first factor : ℕ} {skips : Bool} {n : ℕ} {start sums : List ℕ} {next i : ℕ}
    (u : Underway arities nodes table at end first factor skips n start sums next i) (w : Weighable arities nodes at (end - at)) where
  argument : Weighable arities nodes next (end - next)
  argument = next_argument arities nodes table at end w first factor skips start n sums next i (u.unweighed w) u.more

  -- it begins within the nodes, and has fewer than the term
  begins : next < length nodes
  begins = (node_within arities nodes next (end - next) argument).0

  fewer : end - next < end - at
  fewer = next_inside arities nodes table at end w first factor skips start n sums next i (u.unweighed w) u.more

  byte : get_or nodes next 0 < 80
  byte = code_small arities nodes next (end - next) argument

  -- it is weighed by the factor k that the code takes for it
  module _
      (s : Sums start) (low : get_or nodes at 0 < 64) (k : ℕ) (taken : k ≡ capped (factor * get_or table (first + i) 0)) (after : List ℕ) (place : ℕ)
      (weighed : (v : Weighable arities nodes next (end - next)) → Weighed arities nodes table next (end - next) v k skips sums after place) where
    passes : ltb limit (get_or after 0 0) ≡ true → FormedAs arities nodes table at end first factor skips start after place
    passes =
        argument_passes arities nodes table at end first factor skips start s low n sums next i u.unweighed u.more (omega (arith, u.few, u.more))
        k taken after place (λ x. weighed _) (weighed argument).long (weighed argument).within

    goes_on : i < n → ltb limit (get_or after 0 0) ≡ false → Underway arities nodes table at end first factor skips n start after place (i + 1)
    goes_on more h =
        record {
          few = u.few;
          begun = omega arith;
          more = omega arith;
          factor_some = u.factor_some;
          within = (weighed argument).within h;
          unweighed = λ x.
              then_within arities nodes table at end x first factor skips start n sums next i (u.unweighed x) u.more k taken
              (omega (arith, u.few, u.more)) after place (weighed _) h;
        }

    last : i ≡ n → FormedAs arities nodes table at end first factor skips start after place
    last e =
        argument_last arities nodes table at end first factor skips start s low n sums next i u.unweighed u.more (omega (arith, u.few, u.more))
        k taken after place (λ x. weighed _) (weighed argument).long (weighed argument).within e u.factor_some

-- that factor is small enough
taken_small : (k n : ℕ) → k ≡ capped n → k ≤ limit + 1
taken_small k n e = rw e (capped_small n)

pub bounds-nodes-next : goal.bounds-nodes-next
bounds-nodes-next t c = omega (arith, c.requires.5, begins c.loop-i.invariant c.requires.0)

pub overflow_mul-factor-in-loop-i : goal.overflow_mul-factor-in-loop-i
overflow_mul-factor-in-loop-i t c = omega (arith, part_small _ c.from-in-loop-i.result c.requires.3 (omega arith))

pub add-requires-then-c-ge-MOST_SYMBOLS : goal.add-requires-then-c-ge-MOST_SYMBOLS
add-requires-then-c-ge-MOST_SYMBOLS t c =
    (omega (arith, byte c.loop-i.invariant c.requires.0, (rw c.from-c.ensures at c.if-c-ge-MOST_SYMBOLS.true)), c.loop-i.invariant.within, omega (arith, limit_room, taken_small _ _ c.cap-k.ensures))

pub overflow_mul-k : goal.overflow_mul-k
overflow_mul-k t c = omega (arith, part_small _ c.from-then-arities-c-eq0.result (taken_small _ _ c.cap-k.ensures) (omega arith))

pub add-requires-then-arities-c-eq0 : goal.add-requires-then-arities-c-eq0
add-requires-then-arities-c-eq0 t c =
    (omega arith, c.loop-i.invariant.within, part_small _ c.from-then-arities-c-eq0.result (taken_small _ _ c.cap-k.ensures) (omega arith))

pub overflow_add-next-then-arities-c-eq0 : goal.overflow_add-next-then-arities-c-eq0
overflow_add-next-then-arities-c-eq0 t c = omega (arith, c.requires.5, begins c.loop-i.invariant c.requires.0)

pub form_at-next-requires : goal.form_at-next-requires
form_at-next-requires t c =
    let u = c.loop-i.invariant in
    let low = (rw c.from-c.ensures at c.if-c-ge-MOST_SYMBOLS.false) in
    (omega (arith, c.decreases, fewer u c.requires.0), (argument u c.requires.0, low, omega (arith, c.row-first.ensures, low), taken_small _ _ c.cap-k.ensures, u.within, c.requires.5))

pub returns-then-over-3-clause-means : goal.returns-then-over-3-clause-means
returns-then-over-3-clause-means t c =
    let a = c.args in
    let l = c.loop-i in
    let weighed :
    (v : Weighable a.arities.now a.nodes.now l.next (a.end - l.next)) →
    Weighed a.arities.now a.nodes.now a.table.now l.next (a.end - l.next) v c.cap-k.result a.skips l.sums c.if-c-ge-MOST_SYMBOLS.sums
    c.if-c-ge-MOST_SYMBOLS.next =
    λ v.
    elim c.if-c-ge-MOST_SYMBOLS.branch [
      | then-c-ge-MOST_SYMBOLS w ↦
          rw (w.sums-is, w.next-is)
          (variable_weighed _ _ _ _ _ v _ _ _ _ l.invariant.within.long
          (rw c.from-c.ensures at w.if-c-ge-MOST_SYMBOLS.true) (rw c.from-c.ensures at w.add-then-c-ge-MOST_SYMBOLS.ensures))
      | else-c-ge-MOST_SYMBOLS+then-arities-c-eq0 w ↦
          let own = w.from-then-arities-c-eq0.ensures in
          let small : w.from-then-arities-c-eq0.result < 65536 = omega arith in
          let first = rw w.from-else-c-ge-MOST_SYMBOLS.ensures at w.row-first.ensures in
          rw (w.sums-is, w.next-is)
          (constant_weighed _ _ _ _ _ v _ _ _ _ l.invariant.within.long
          (rw c.from-c.ensures at w.if-c-ge-MOST_SYMBOLS.false) (rw c.from-c.ensures at w.if-arities-c-eq0.true) (rw (own, first) at small)
          (rw (own, first) at w.add-then-arities-c-eq0.ensures))
      | else-c-ge-MOST_SYMBOLS+else-arities-c-eq0 w ↦
          let e = w.form_at-next.ensures in
          rw (w.sums-is, w.next-is)
          (call_weighed _ _ _ _ _ v _ _ _ _ _ _ (rw w.from-else-c-ge-MOST_SYMBOLS.ensures at w.row-first.ensures)
          (rw c.from-c.ensures at w.if-c-ge-MOST_SYMBOLS.false) e.bounded.0 e.bounded.1 e.ends e.means)
    ] in
    (passes l.invariant c.requires.0 c.requires.4 c.requires.1 _ (rw c.from-in-loop-i.ensures at c.cap-k.ensures) _ _ weighed
    (sym c.over-in-loop-i.ensures ∙ c.if-over-3.true)).means

pub loop-i-preserved : goal.loop-i-preserved
loop-i-preserved t c =
    let a = c.args in
    let l = c.loop-i in
    let weighed :
    (v : Weighable a.arities.now a.nodes.now l.next (a.end - l.next)) →
    Weighed a.arities.now a.nodes.now a.table.now l.next (a.end - l.next) v c.cap-k.result a.skips l.sums c.if-c-ge-MOST_SYMBOLS.sums
    c.if-c-ge-MOST_SYMBOLS.next =
    λ v.
    elim c.if-c-ge-MOST_SYMBOLS.branch [
      | then-c-ge-MOST_SYMBOLS w ↦
          rw (w.sums-is, w.next-is)
          (variable_weighed _ _ _ _ _ v _ _ _ _ l.invariant.within.long
          (rw c.from-c.ensures at w.if-c-ge-MOST_SYMBOLS.true) (rw c.from-c.ensures at w.add-then-c-ge-MOST_SYMBOLS.ensures))
      | else-c-ge-MOST_SYMBOLS+then-arities-c-eq0 w ↦
          let own = w.from-then-arities-c-eq0.ensures in
          let small : w.from-then-arities-c-eq0.result < 65536 = omega arith in
          let first = rw w.from-else-c-ge-MOST_SYMBOLS.ensures at w.row-first.ensures in
          rw (w.sums-is, w.next-is)
          (constant_weighed _ _ _ _ _ v _ _ _ _ l.invariant.within.long
          (rw c.from-c.ensures at w.if-c-ge-MOST_SYMBOLS.false) (rw c.from-c.ensures at w.if-arities-c-eq0.true) (rw (own, first) at small)
          (rw (own, first) at w.add-then-arities-c-eq0.ensures))
      | else-c-ge-MOST_SYMBOLS+else-arities-c-eq0 w ↦
          let e = w.form_at-next.ensures in
          rw (w.sums-is, w.next-is)
          (call_weighed _ _ _ _ _ v _ _ _ _ _ _ (rw w.from-else-c-ge-MOST_SYMBOLS.ensures at w.row-first.ensures)
          (rw c.from-c.ensures at w.if-c-ge-MOST_SYMBOLS.false) e.bounded.0 e.bounded.1 e.ends e.means)
    ] in
    goes_on l.invariant c.requires.0 c.requires.4 c.requires.1 _ (rw c.from-in-loop-i.ensures at c.cap-k.ensures) _ _ weighed c.loop-i-test.true
    (sym c.over-in-loop-i.ensures ∙ c.if-over-3.false)

-- THE LAST ARGUMENT

pub bounds-nodes-next-2 : goal.bounds-nodes-next-2
bounds-nodes-next-2 t c = omega (arith, c.requires.5, begins c.loop-i.invariant c.requires.0)

pub overflow_mul-factor-2 : goal.overflow_mul-factor-2
overflow_mul-factor-2 t c = omega (arith, part_small _ c.from-3.result c.requires.3 (omega arith))

pub add-requires-then-c-ge-MOST_SYMBOLS-2 : goal.add-requires-then-c-ge-MOST_SYMBOLS-2
add-requires-then-c-ge-MOST_SYMBOLS-2 t c =
    (omega (arith, byte c.loop-i.invariant c.requires.0, (rw c.from-c-2.ensures at c.if-c-ge-MOST_SYMBOLS-2.true)), c.loop-i.invariant.within, omega (arith, limit_room, taken_small _ _ c.cap-k-2.ensures))

pub returns-then-c-ge-MOST_SYMBOLS-2 : goal.returns-then-c-ge-MOST_SYMBOLS-2
returns-then-c-ge-MOST_SYMBOLS-2 t c =
    let a = c.args in
    let l = c.loop-i in
    let is_last : l.i ≡ c.from-n.result = omega (arith, l.invariant.more, c.loop-i-test.false) in
    let f =
    last l.invariant c.requires.0 c.requires.4 c.requires.1 _ (rw (c.from-3.ensures, ← is_last) at c.cap-k-2.ensures) _ _
    (λ v.
    variable_weighed _ _ _ _ _ v _ _ _ _ l.invariant.within.long
    (rw c.from-c-2.ensures at c.if-c-ge-MOST_SYMBOLS-2.true) (rw c.from-c-2.ensures at c.add-then-c-ge-MOST_SYMBOLS-2.ensures)) is_last in
    record { bounded = (f.long, f.within); ends = f.ends; means = f.means }

pub overflow_mul-k-then-arities-c-eq0-2 : goal.overflow_mul-k-then-arities-c-eq0-2
overflow_mul-k-then-arities-c-eq0-2 t c =
    omega (arith, part_small _ c.from-then-arities-c-eq0-2.result (taken_small _ _ c.cap-k-2.ensures) (omega arith))

pub add-requires-then-arities-c-eq0-2 : goal.add-requires-then-arities-c-eq0-2
add-requires-then-arities-c-eq0-2 t c =
    (omega arith, c.loop-i.invariant.within, part_small _ c.from-then-arities-c-eq0-2.result (taken_small _ _ c.cap-k-2.ensures) (omega arith))

pub overflow_add-result-then-arities-c-eq0-2 : goal.overflow_add-result-then-arities-c-eq0-2
overflow_add-result-then-arities-c-eq0-2 t c = omega (arith, c.requires.5, begins c.loop-i.invariant c.requires.0)

pub returns-then-arities-c-eq0-2 : goal.returns-then-arities-c-eq0-2
returns-then-arities-c-eq0-2 t c =
    let a = c.args in
    let l = c.loop-i in
    let is_last : l.i ≡ c.from-n.result = omega (arith, l.invariant.more, c.loop-i-test.false) in
    let own = c.from-then-arities-c-eq0-2.ensures in
    let small : c.from-then-arities-c-eq0-2.result < 65536 = omega arith in
    let first = rw c.from-4.ensures at c.row-first-2.ensures in
    let f =
    last l.invariant c.requires.0 c.requires.4 c.requires.1 _ (rw (c.from-3.ensures, ← is_last) at c.cap-k-2.ensures) _ _
    (λ v.
    constant_weighed _ _ _ _ _ v _ _ _ _ l.invariant.within.long
    (rw c.from-c-2.ensures at c.if-c-ge-MOST_SYMBOLS-2.false) (rw c.from-c-2.ensures at c.if-arities-c-eq0-2.true) (rw (own, first) at small)
    (rw (own, first) at c.add-then-arities-c-eq0-2.ensures)) is_last in
    record { bounded = (f.long, f.within); ends = f.ends; means = f.means }

pub form_at-requires : goal.form_at-requires
form_at-requires t c =
    let u = c.loop-i.invariant in
    let low = (rw c.from-c-2.ensures at c.if-c-ge-MOST_SYMBOLS-2.false) in
    (omega (arith, c.decreases, fewer u c.requires.0), (argument u c.requires.0, low, omega (arith, c.row-first-2.ensures, low), taken_small _ _ c.cap-k-2.ensures, u.within, c.requires.5))

pub returns : goal.returns
returns t c =
    let a = c.args in
    let l = c.loop-i in
    let is_last : l.i ≡ c.from-n.result = omega (arith, l.invariant.more, c.loop-i-test.false) in
    let e = c.form_at.ensures in
    let f =
    last l.invariant c.requires.0 c.requires.4 c.requires.1 _ (rw (c.from-3.ensures, ← is_last) at c.cap-k-2.ensures) _ _
    (λ v.
    call_weighed _ _ _ _ _ v _ _ _ _ _ _ (rw c.from-4.ensures at c.row-first-2.ensures)
    (rw c.from-c-2.ensures at c.if-c-ge-MOST_SYMBOLS-2.false) e.bounded.0 e.bounded.1 e.ends e.means) is_last in
    record { bounded = (f.long, f.within); ends = f.ends; means = f.means }
