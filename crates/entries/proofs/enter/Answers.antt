-- `entries::enter` meets its contract: the place is there, or lies past all entries.
use Rattle.entries.proofs.Entering.{entered_within, entered_past}
use Rattle.entries.proofs.enter.Goals as goal

pub returns-then-at-entries : goal.returns-then-at-entries
returns-then-at-entries c = entered_within c.args.entries.now c.args.at c.args.entry c.if-at-entries.true

pub returns-else-at-entries : goal.returns-else-at-entries
returns-else-at-entries c = entered_past c.args.entries.now c.args.at c.args.entry c.if-at-entries.false
