-- `checker::weighing::put_all` meets its contract.
use mathlib.Core.Path.{◌≡◌, refl, sym, ap, ◌∙◌}
use mathlib.Core.Bool.{Bool, cond}
use mathlib.Core.List.{List, [], ◌∷◌}
use Prim.Native.Nat.{ℕ, ◌+◌, ◌*◌, ◌≤◌, ◌<◌, max}
use native.Mathlib.Omega.{arith}
use lib.ListN.{length, set}
use lib.Dec.{ltb}
use borrow.Author.Tests.{ltb-true, ltb-false}
use Rattle.rewriting.proofs.Basics.{by_test, Each, each_head}
use Rattle.records.specs.declared.Record.{Record}
use Rattle.polynomials.specs.Polynomials.{Weight}
use Rattle.checker.specs.Working.{WeightsAt, own_base, put_all}
use Rattle.checker.proofs.Tables.{InTable}
use Rattle.checker.proofs.Runs.{GoesOn, fillable_small, none_at_end, none_at_other, goes_on}
use Rattle.checker.proofs.weighing.put_all.Invariants.{Putting}
use Rattle.checker.proofs.weighing.put_all.Goals.{then-clears, else-clears}
use Rattle.checker.proofs.weighing.put_all.Goals as goal

-- where the loop ends
last_place : (from n at : ℕ) → (n < from → at ≡ from) → (from ≤ n → at ≤ n) → n ≤ at → max from n ≡ at
last_place from n at past up h =
    by_test (ltb n from) (λ b. let e = past (ltb-true n from b) in let l = ltb-true n from b in omega arith)
    (λ b. let f = ltb-false n from b in let g = up f in omega arith)

at_first : {cert : List ℕ} {from kind : ℕ} (clears : Bool) {ws : List Weight} {table : List ℕ} → WeightsAt cert from kind ws →
    Putting clears cert from kind ws table table from
at_first clears {ws} a = record { left = ws; stand = a; passed = refl; rest = refl }

module _ {clears : Bool} {cert : List ℕ} {from kind : ℕ} {ws : List Weight} {before table : List ℕ} {at : ℕ}
    (s : Putting clears cert from kind ws before table at) where
  -- where none is left, all are put
  all_put : s.left ≡ [] → (at ≡ from + length ws) × (table ≡ put_all clears (own_base kind) ws before)
  unfolding put_all
  all_put none =
      (omega (arith, s.passed, ap length none), sym (ap (λ (l : List Weight). put_all clears (own_base kind) l table) none) ∙ s.rest)

  -- a record of the kind is the next weight's: it has its cell, and is put there
  module _ {r : Record} (g : GoesOn cert at kind r s.left) where
    in_table : (r.a < 64) × (r.b ≤ 8)
    in_table = let small : Each InTable (g.first ∷ g.others) = rw g.both at (fillable_small s.stand.fillable) in rw g.is (each_head small)

    one_put : Putting clears cert from kind ws before (set table (own_base kind + (9 * r.a + r.b)) (cond clears 0 r.c)) (at + 1)
    unfolding put_all
    one_put =
        record {
          left = g.others;
          stand = g.next;
          passed = omega (arith, s.passed, ap length g.both);
          rest = rw g.is (sym (ap (λ (l : List Weight). put_all clears (own_base kind) l table) g.both) ∙ s.rest);
        }

pub loop-at-init : goal.loop-at-init
loop-at-init c = (λ h. refl, λ ws a. at_first c.args.clears a)

pub returns-then-r-kind : goal.returns-then-r-kind
returns-then-r-kind c =
    let l = c.loop-at in
    let all : (ws : List Weight) → WeightsAt c.args.certificate.now c.args.from c.args.kind ws →
    (l.at ≡ c.args.from + length ws) × (l.table ≡ put_all c.args.clears (own_base c.args.kind) ws c.args.table.now) =
    λ ws a. let s = l.invariant.1 ws a in all_put s (none_at_other s.stand c.loop-at-test.true c.record_at-r.ensures c.if-r-kind.true) in
    record { ends = λ ws a. (all ws a).0; are = λ ws a. (all ws a).1 }

pub store-requires : goal.store-requires
store-requires c =
    let asked = c.requires in
    let s = c.loop-at.invariant.1 asked.weights asked.stand in
    in_table s (goes_on s.stand c.loop-at-test.true c.record_at-r.ensures c.if-r-kind.false)

pub loop-at-preserved : goal.loop-at-preserved
loop-at-preserved c =
    let l = c.loop-at in
    let kind = c.args.kind in
    let r = c.record_at-r.result in
    let value : c.if-clears.store ≡ cond c.args.clears 0 r.c =
    elim c.if-clears.branch [
      | then-clears w ↦ rw (w.store-is, w.if-clears.true)
      | else-clears w ↦ rw (w.store-is, w.if-clears.false)
    ] in
    let e : c.store.new.table ≡ set l.table (own_base kind + (9 * r.a + r.b)) (cond c.args.clears 0 r.c) =
    c.store.ensures ∙ ap (λ k. set l.table (own_base k + (9 * r.a + r.b)) c.if-clears.store) c.if-r-kind.false
    ∙ ap (set l.table (own_base kind + (9 * r.a + r.b))) value in
    rw e (
      λ h. absurd (omega (arith, h, c.loop-at-test.true)),
      λ ws a. let s = l.invariant.1 ws a in one_put s (goes_on s.stand c.loop-at-test.true c.record_at-r.ensures c.if-r-kind.false),
    )

pub returns : goal.returns
returns c =
    let l = c.loop-at in
    let all : (ws : List Weight) → WeightsAt c.args.certificate.now c.args.from c.args.kind ws →
    (l.at ≡ c.args.from + length ws) × (l.table ≡ put_all c.args.clears (own_base c.args.kind) ws c.args.table.now) =
    λ ws a. let s = l.invariant.1 ws a in all_put s (none_at_end s.stand c.loop-at-test.false) in
    let there : c.max.result ≡ l.at = c.max.ensures ∙ last_place _ _ l.at l.invariant.0 l.auto.at-end c.loop-at-test.false in
    record { ends = λ ws a. there ∙ (all ws a).0; are = λ ws a. (all ws a).1 }
