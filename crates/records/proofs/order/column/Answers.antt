-- `records::order::column` meets its contract: a letter's column is its place in the alphabet.
use mathlib.Core.Path.{◌≡◌, sym}
use mathlib.Core.Logic.{◌⊎◌}
use Prim.Native.Nat.{ℕ, ◌+◌, ◌-◌, ◌≤◌, ◌<◌}
use native.Mathlib.Omega.{arith}
use borrow.Author.Tests.{ne_eqb}
use Rattle.records.specs.Order.{index}
use Rattle.records.specs.Rows.{column_at}
use Rattle.records.proofs.Table.{no_kind}
use Rattle.records.proofs.order.column.Goals as goal

other : (kind : ℕ) → ◌⊎◌ (kind < 65) (91 ≤ kind) → column_at 28 ≡ index kind
unfolding column_at index
other kind h = sym (no_kind kind h)

letter : (kind : ℕ) → 65 ≤ kind → kind < 91 → column_at (kind - 65) ≡ index kind
unfolding column_at
letter kind h l =
    let e : 65 + (kind - 65) ≡ kind = omega arith in
    rw (ne_eqb (kind - 65) 26 (λ z. omega arith), ne_eqb (kind - 65) 27 (λ z. omega arith), e)

pub returns-then-is_ascii_uppercase : goal.returns-then-is_ascii_uppercase
returns-then-is_ascii_uppercase c =
    let k = c.if-is_ascii_uppercase.ensures.cases in (omega arith, rw c.from.ensures (letter _ k.0 (omega arith)))

pub returns : goal.returns
returns c = let k = c.if-is_ascii_uppercase.ensures.cases in (omega arith, other _ k)
