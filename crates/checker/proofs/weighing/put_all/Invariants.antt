-- `checker::weighing::put_all` meets its contract. The loop's invariant, for any weights that stand there: those that are left of them
-- stand from record `at` on, and once they are put all are.
use mathlib.Core.Path.{◌≡◌}
use mathlib.Core.Bool.{Bool}
use mathlib.Core.List.{List}
use Prim.Native.Nat.{ℕ, ◌+◌, ◌<◌}
use lib.ListN.{length}
use Rattle.polynomials.specs.Polynomials.{Weight}
use Rattle.checker.specs.Working.{WeightsAt, own_base, put_all}
use Rattle.checker.proofs.weighing.put_all.Given as goal

pub record Putting (clears : Bool) (cert : List ℕ) (from kind : ℕ) (ws : List Weight) (before table : List ℕ) (at : ℕ) : Type 0 where
  pub left : List Weight
  pub stand : WeightsAt cert at kind left
  pub passed : at + length left ≡ from + length ws
  pub rest : put_all clears (own_base kind) left table ≡ put_all clears (own_base kind) ws before

abbrev pub invariant-loop-at : goal.invariant-loop-at
invariant-loop-at l =
    (l.n < l.from → l.at ≡ l.from)
    × ((ws : List Weight) → WeightsAt l.certificate l.from l.kind ws → Putting l.clears l.certificate l.from l.kind ws l.initial.table l.table l.at)
