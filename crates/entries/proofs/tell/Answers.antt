-- `entries::tell` meets its contract. The loop's invariant: the entries before i are told, and those from i on are as they were.
use mathlib.Core.Path.{◌≡◌, refl, ap, ◌∙◌}
use mathlib.Core.Bool.{Bool, true, false}
use mathlib.Core.List.{List}
use Prim.Native.Nat.{ℕ, ◌+◌, ◌<◌}
use native.Mathlib.Omega.{arith}
use lib.Dec.{eqb}
use lib.ListN.{get_or, set, length-set}
use lib.Seq.{get_or-set_same, get_or-set_other}
use borrow.Author.Tests.{eqb-true, eqb-false}
use Rattle.entries.specs.declared.Entry.{Entry}
use Rattle.entries.specs.Entries.{none, telling}
use Rattle.entries.proofs.tell.Invariants.{ToldBefore}
use Rattle.entries.proofs.tell.Goals as goal

-- one more entry is told: entry k is that one, or one before it
module _ {weightings : List ℕ} {before after : List Entry} {i : ℕ} (t : ToldBefore weightings before after i) (h : i < 2048) where
  abbrev e : Entry
  e = telling (get_or after i none) (get_or weightings i 0)

  told_at : (k : ℕ) → k < i + 1 → (b : Bool) → eqb k i ≡ b → get_or (set after i e) k none ≡ telling (get_or before k none) (get_or weightings k 0)
  told_at k below true z =
      rw (eqb-true k i z)
      (get_or-set_same after i e none (omega (arith, t.long)) ∙ ap (λ (x : Entry). telling x (get_or weightings i 0)) (t.others i (omega arith)))
  told_at k below false z = let apart = eqb-false k i z in get_or-set_other after i k e none apart ∙ t.told k (omega arith)

  told_next : ToldBefore weightings before (set after i e) (i + 1)
  told_next =
      record {
        long = length-set after i e ∙ t.long;
        told = λ k below. told_at k below (eqb k i) refl;
        others = λ k above. get_or-set_other after i k e none (λ z. omega arith) ∙ t.others k (omega arith);
      }

pub loop-i-init : goal.loop-i-init
loop-i-init c =
    (omega arith, c.requires.few, record { long = c.requires.long; told = λ k h. absurd (omega arith); others = λ k h. refl })

pub offset_bounds-entries-i : goal.offset_bounds-entries-i
offset_bounds-entries-i c =
    let within : c.loop-i.i < 2048 = omega (arith, c.loop-i.invariant.1, c.loop-i-test.true) in
    record { fits = omega (arith, within) }

pub bounds-entries-i : goal.bounds-entries-i
bounds-entries-i c =
    let within : c.loop-i.i < 2048 = omega (arith, c.loop-i.invariant.1, c.loop-i-test.true) in
    within

pub bounds-weightings-i : goal.bounds-weightings-i
bounds-weightings-i c =
    let within : c.loop-i.i < 2048 = omega (arith, c.loop-i.invariant.1, c.loop-i-test.true) in
    within

pub loop-i-preserved : goal.loop-i-preserved
loop-i-preserved c =
    let within : c.loop-i.i < 2048 = omega (arith, c.loop-i.invariant.1, c.loop-i-test.true) in
    let l = c.loop-i in
    (omega (arith, c.loop-i-test.true), l.invariant.1, rw c.from.ensures (told_next l.invariant.2 within))

pub returns : goal.returns
returns c =
    record { counted = refl; are = λ k h. c.loop-i.invariant.2.told k (omega (arith, c.loop-i-test.false)) }
