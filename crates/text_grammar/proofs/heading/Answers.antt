-- `text_grammar::heading` meets its contract: a parenthesis, then the word.
use mathlib.Core.Path.{refl, ◌∙◌}
use native.Mathlib.Omega.{arith}
use Rattle.text_tokens.specs.Told.{Named, Told}
use Rattle.text_grammar.proofs.Sections.{no_heading, no_word, word_told, refused_told, passed_told}
use Rattle.text_grammar.proofs.heading.Goals as goal

pub returns-in_default : goal.returns-in_default
returns-in_default c = refused_told _ _ (no_heading _ c.args.at c.args.word.now _ c.in_default.not-Open c.next_token.ensures)

pub next_token-requires-2 : goal.next_token-requires-2
unfolding Told
next_token-requires-2 c = record { within = c.in-Open.ensures.within; text_short = c.requires.text_short }

pub returns-in_default-next_token : goal.returns-in_default-next_token
unfolding Told
returns-in_default-next_token c =
    refused_told _ _ (no_word _ c.args.at c.args.word.now _ c.in-Open.ensures _ c.in_default-next_token.not-Name c.next_token-2.ensures)

pub is_word-requires : goal.is_word-requires
unfolding Told
is_word-requires c =
    let n : Named c.args.text.now c.in-Open.a c.in-Name.s c.in-Name.e = c.in-Name.ensures in
    omega (arith, n.some, n.moves.within, c.requires.text_short)

pub returns-then-is_word : goal.returns-then-is_word
unfolding Told
returns-then-is_word c =
    let n : Named c.args.text.now c.in-Open.a c.in-Name.s c.in-Name.e = c.in-Name.ensures in
    passed_told _ _ n.moves.within _
    (word_told _ c.args.at c.args.word.now _ c.in-Open.ensures _ _ n ∙ rw (← c.is_word.ensures, c.if-is_word.true) refl)

pub returns : goal.returns
unfolding Told
returns c =
    let n : Named c.args.text.now c.in-Open.a c.in-Name.s c.in-Name.e = c.in-Name.ensures in
    refused_told _ _ (word_told _ c.args.at c.args.word.now _ c.in-Open.ensures _ _ n ∙ rw (← c.is_word.ensures, c.if-is_word.false) refl)
