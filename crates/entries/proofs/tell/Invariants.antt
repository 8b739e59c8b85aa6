-- `entries::tell` meets its contract. The loop's invariant: the entries before i are told, and those from i on are as they were.
use mathlib.Core.Path.{◌≡◌}
use mathlib.Core.List.{List}
use Prim.Native.Nat.{ℕ, ◌≤◌, ◌<◌}
use lib.ListN.{length, get_or}
use Rattle.entries.specs.declared.Entry.{Entry}
use Rattle.entries.specs.Entries.{none, telling}
use Rattle.entries.proofs.tell.Given as goal

pub record ToldBefore (weightings : List ℕ) (before after : List Entry) (i : ℕ) : Type 0 where
  pub long : length after ≡ 2048
  pub told : (k : ℕ) → k < i → get_or after k none ≡ telling (get_or before k none) (get_or weightings k 0)
  pub others : (k : ℕ) → i ≤ k → get_or after k none ≡ get_or before k none

abbrev pub invariant-loop-i : goal.invariant-loop-i
invariant-loop-i l = (l.i ≤ l.n) × (l.n ≤ 2048) × ToldBefore l.weightings l.initial.entries l.entries l.i
