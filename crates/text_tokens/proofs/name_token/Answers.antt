-- `text_tokens::name_token` meets its contract: the name's length decides.
use native.Mathlib.Omega.{arith}
use Rattle.text_tokens.specs.Told.{Told}
use Rattle.text_tokens.proofs.Places.{named_at, long_at}
use Rattle.text_tokens.proofs.name_token.Goals as goal

pub returns-then-e-i-gt-MOST_CHARACTERS : goal.returns-then-e-i-gt-MOST_CHARACTERS
unfolding Told
returns-then-e-i-gt-MOST_CHARACTERS c =
    let q = c.requires in
    long_at c.args.text.now c.args.i q.within q.character (omega (arith, c.name_end-e.ensures, c.if-e-i-gt-MOST_CHARACTERS.true))

pub returns : goal.returns
unfolding Told
returns c =
    let q = c.requires in
    let end = c.name_end-e.ensures in
    named_at c.args.text.now c.args.i q.within q.character _ end (omega (arith, end, c.if-e-i-gt-MOST_CHARACTERS.false))
