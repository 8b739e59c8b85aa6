-- `text_reader::rules::read_rules` meets its contract. The loop's invariant, of RulesSoFar.antt: the rules read so far are kept, and
-- the tokens left come, after these rules, to what all come to.
use mathlib.Core.List.{List}
use Prim.Native.Nat.{◌-◌}
use lib.ListN.{length}
use Rattle.texts.specs.Tokens.{Name}
use Rattle.texts.specs.Spelling.{TextRule}
use Rattle.text_names.specs.Table.{VariablesKept}
use Rattle.text_grammar.specs.Grammar.{RulesStand}
use Rattle.text_reader.proofs.RulesSoFar.{GoesOn, SoFar}
use Rattle.text_reader.proofs.rules.read_rules.Given as goal

abbrev pub invariant-loop-seen : goal.invariant-loop-seen
invariant-loop-seen l =
    GoesOn l.text l.i l.names.symbols l.pack.arities l.names.variables l.found l.pack.starts l.pack.nodes l.count l.kept l.rules
    × ((vs : List Name) (rs : List TextRule) → VariablesKept l.text l.table vs → RulesStand l.text l.at vs rs → SoFar l.text l.i vs rs l.names.symbols l.pack.arities l.names.variables l.pack.starts l.pack.nodes l.count l.kept l.rules)

abbrev pub decreases-loop-seen : goal.decreases-loop-seen
decreases-loop-seen l = length l.text - l.i
