-- A number below a bound stands in a list that begins with all of them.
use mathlib.Core.Path.{◌≡◌}
use mathlib.Core.Bool.{true}
use mathlib.Core.List.{List, ◌∷◌}
use Prim.Native.Nat.{ℕ, zero, suc, ◌+◌, ◌≤◌, ◌<◌}
use native.Mathlib.Omega.{arith}
use lib.Dec.{eqb}
use borrow.Author.Tests.{eqb-false}
use Rattle.rewriting.specs.Systems.{member}
use Rattle.rewriting.proofs.Basics.{by_test, or_left, or_right}

-- k numbers from i on, then others
abbrev pub counted_up : (i k : ℕ) → List ℕ → List ℕ
counted_up i zero xs = xs
counted_up i (suc k) xs = i ∷ counted_up (suc i) k xs

pub counted : (i k n : ℕ) (xs : List ℕ) → i ≤ n → n < i + k → member n (counted_up i k xs) ≡ true
unfolding member
counted i zero n xs few many = absurd (omega arith)
counted i (suc k) n xs few many =
    by_test (eqb i n) (λ h. or_left _ h)
    (λ h. let other = eqb-false i n h in or_right (eqb i n) (counted (suc i) k n xs (omega arith) (omega arith)))
