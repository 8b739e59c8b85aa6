-- `checker::weighing::judge_pairs` meets its contract. The loop's invariant: the pairs before pair i are judged or have left, the numbers
-- from it on are as they were, and what is known of the left side of rule `last` is kept.
use mathlib.Core.Path.{◌≡◌}
use mathlib.Core.Bool.{true}
use mathlib.Core.List.{List}
use Prim.Native.Nat.{ℕ, ◌+◌, ◌*◌, ◌-◌}
use borrow.Author.Rules.{rules}
use lib.ListN.{length, get_or}
use Rattle.std.specs.Prelude.{Option, Some}
use Rattle.polynomials.specs.Polynomials.{Weight}
use Rattle.weights.specs.Table.{TableIs, MarkedIs}
use Rattle.weights.specs.Working.{SideSummed}
use Rattle.checker.specs.declared.weighing.Tally.{Tally}
use Rattle.checker.specs.Working.{PresentAsked, ArgumentsWithin, OthersAsBefore}
use Rattle.checker.proofs.FromStore.{weighting}
use Rattle.checker.proofs.Tallies.{JudgedTo}
use Rattle.checker.proofs.weighing.judge_pairs.Given as goal

-- the sums are those of the left side of a rule, if they are of any
pub record LeftKept (arities nodes table starts : List ℕ) (rule : Option ℕ) (sums : List ℕ) : Type 0 where
  pub long : length sums ≡ 17
  pub is_known :
      (r : ℕ) → rule ≡ Some r → SideSummed arities nodes table (get_or starts (2 * r) 0) (get_or starts (2 * r + 1) 0 - get_or starts (2 * r) 0) true sums

-- for all that may have been asked, the pairs before pair i are judged under the weights of the table
abbrev pub JudgedBefore : (certificate : List ℕ) (from count first number rules : ℕ) (arities starts nodes table before lefts : List ℕ) (i : ℕ) → Tally → Type 0
JudgedBefore certificate from count first number rules arities starts nodes table before lefts i t =
    (a : PresentAsked certificate from count first number rules arities starts nodes before) (ws vs : List Weight) → TableIs table ws → MarkedIs table vs →
    ArgumentsWithin a.pairs_asked.asked.kept.system ws a.pairs_asked.pairs →
    JudgedTo a.pairs_asked.asked.kept.system a.done (weighting ws vs) a.pairs_asked.pairs first lefts i t

abbrev pub invariant-loop-i : goal.invariant-loop-i
invariant-loop-i l =
    LeftKept l.pack.arities l.pack.nodes l.table l.pack.starts l.last l.sums
    × OthersAsBefore l.first (l.first + l.i) l.initial.lefts l.lefts
    × JudgedBefore l.certificate l.from l.count l.first l.number l.pack.rules l.pack.arities l.pack.starts l.pack.nodes l.table l.initial.lefts l.lefts l.i l.found
