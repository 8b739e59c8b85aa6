-- `text_tokens::token_at` meets its contract: the byte decides, and what begins with it is told by the functions for names and arrows.
use Rattle.std.proofs.Common.{sym, ◌∙◌, arith}
use Rattle.text_tokens.specs.Told.{Told}
use Rattle.text_tokens.proofs.Places.{open_at, close_at, comma_at, bad_at}
use Rattle.text_tokens.proofs.token_at.Goals as goal

pub returns-in-40 : goal.returns-in-40
unfolding Told
returns-in-40 c = open_at c.args.text.now c.args.i c.requires.within c.in-40.is

pub returns-in-41 : goal.returns-in-41
unfolding Told
returns-in-41 c = close_at c.args.text.now c.args.i c.requires.within c.in-41.is

pub returns-in-44 : goal.returns-in-44
unfolding Told
returns-in-44 c = comma_at c.args.text.now c.args.i c.requires.within c.in-44.is

pub returns-in_default-2 : goal.returns-in_default-2
unfolding Told
returns-in_default-2 c =
    let other = sym c.in_name.ensures ∙ c.if-in_name.false in
    bad_at c.args.text.now c.args.i c.requires.within c.requires.no_blank other (λ e. omega arith) (λ e. omega arith) (λ e. omega arith) (λ e. omega arith)
