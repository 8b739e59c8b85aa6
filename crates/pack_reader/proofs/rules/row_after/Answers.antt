-- `pack_reader::rules::row_after` meets its contract: no symbol, or some.
use mathlib.Core.Path.{◌≡◌, refl}
use Prim.Native.Nat.{ℕ, zero, suc}
use native.Mathlib.Omega.{arith}
use Rattle.pack_reader.specs.Stored.{row_after}
use Rattle.pack_reader.proofs.rules.row_after.Goals as goal

none : (n : ℕ) → n ≡ 0 → 0 ≡ row_after n
unfolding row_after
none zero e = refl
none (suc n) e = absurd (omega arith)

some : (n : ℕ) → (n ≡ 0 → ⊥) → 1 ≡ row_after n
unfolding row_after
some zero e = absurd (e refl)
some (suc n) e = refl

pub returns-then-symbols-eq0 : goal.returns-then-symbols-eq0
returns-then-symbols-eq0 c = none _ c.if-symbols-eq0.true

pub returns : goal.returns
returns c = some _ c.if-symbols-eq0.false
