-- `records::order::may_follow` meets its contract: the column's bit in the row for what stands before, in the count's state.
use mathlib.Core.Path.{◌≡◌, refl, sym, ap, ◌∙◌}
use mathlib.Core.Bool.{Bool, true, false}
use Prim.Native.Nat.{ℕ, ◌/◌, ◌%◌, ◌^◌, ◌≤◌, ◌<◌}
use native.Mathlib.Omega.{arith}
use lib.Dec.{eqb}
use Rattle.records.specs.Order.{may_follow}
use Rattle.records.specs.declared.order.Row.{Row}
use Rattle.records.specs.Rows.{column_at, bit, RowSays}
use Rattle.records.proofs.Table.{while_due_same}
use Rattle.records.proofs.order.may_follow.Goals as goal

module _ (before next due : ℕ) (weighted : Bool) where
  abbrev Answers : Bool → Type 0
  Answers r = r ≡ may_follow before (column_at next) due weighted

  -- where the bit is the table's, so is the answer
  by_bit : (n : ℕ) {r : Bool} → r ≡ eqb n 1 → n ≡ bit (may_follow before (column_at next) due weighted) → Answers r
  unfolding bit
  by_bit n e s = rw (e, s) (set (may_follow before (column_at next) due weighted))
    where
      set : (b : Bool) → eqb (bit b) 1 ≡ b
      set true = refl
      set false = refl

  module _ {row : Row} {r : Bool} (s : RowSays before row) (h : next < 29) where
    while_due : r ≡ eqb (row.lasts / 2 ^ next % 2) 1 → 1 ≤ due → Answers r
    while_due e d = by_bit (row.lasts / 2 ^ next % 2) e (s.lasts next h ∙ ap bit (sym (while_due_same before (column_at next) due weighted d)))

    after_due : r ≡ eqb (row.done / 2 ^ next % 2) 1 → due ≡ 0 → weighted ≡ false → Answers r
    after_due e d w = by_bit (row.done / 2 ^ next % 2) e (rw (d, w) (s.done next h))

    after_due_weighted : r ≡ eqb (row.weighted / 2 ^ next % 2) 1 → due ≡ 0 → weighted ≡ true → Answers r
    after_due_weighted e d w = by_bit (row.weighted / 2 ^ next % 2) e (rw (d, w) (s.weighted next h))

pub returns-then-due-ne0 : goal.returns-then-due-ne0
returns-then-due-ne0 c = while_due _ _ _ _ c.row_of-r.ensures c.requires c.has.ensures (omega (arith, c.if-due-ne0.true))

pub returns-then-weighted : goal.returns-then-weighted
returns-then-weighted c = after_due_weighted _ _ _ _ c.row_of-r.ensures c.requires c.has-then-weighted.ensures c.if-due-ne0.false c.if-weighted.true

pub returns : goal.returns
returns c = after_due _ _ _ _ c.row_of-r.ensures c.requires c.has-2.ensures c.if-due-ne0.false c.if-weighted.false
