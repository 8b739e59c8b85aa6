-- The invariant of the loop in `text_grammar::rules_stand`: what it keeps stands for a reading of the tokens so far.
use Prim.Native.Nat.{◌-◌}
use lib.ListN.{length}
use Rattle.text_grammar.specs.Grammar.{rank}
use Rattle.text_grammar.proofs.Simulation.{Kept}
use Rattle.text_grammar.proofs.rules_stand.Given as goal

abbrev pub invariant-loop-s : goal.invariant-loop-s
invariant-loop-s l = Kept l.text l.at l.table (rank l.mode) l.depth l.right l.last l.i

abbrev pub decreases-loop-s : goal.decreases-loop-s
decreases-loop-s l = length l.text - l.i
