-- `text_grammar::at_end` meets its contract: only at the end no token is told.
use Rattle.text_tokens.specs.Told.{Told}
use Rattle.text_grammar.proofs.Sections.{end_told, more_told}
use Rattle.text_grammar.proofs.at_end.Goals as goal

pub returns-in-End : goal.returns-in-End
unfolding Told
returns-in-End c = end_told _ c.args.at c.in-End.ensures

pub returns-in_default : goal.returns-in_default
returns-in_default c = more_told _ c.args.at _ c.in_default.not-End c.next_token.ensures
