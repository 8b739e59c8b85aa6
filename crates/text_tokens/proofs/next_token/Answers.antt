-- `text_tokens::next_token` meets its contract: what is told after the blanks is told before them.
use mathlib.Core.Path.{◌∙◌}
use Prim.Native.Nat.{◌<◌}
use native.Mathlib.Omega.{arith}
use lib.ListN.{length}
use Rattle.text_tokens.specs.Told.{Told}
use Rattle.text_tokens.proofs.Places.{tokens_at_end, told_after}
use Rattle.text_tokens.proofs.next_token.Goals as goal

pub returns-then-i-text : goal.returns-then-i-text
unfolding Told
returns-then-i-text c = c.skip_blanks-i.ensures.same_tokens ∙ rw c.if-i-text.true (tokens_at_end c.args.text.now)

pub token_at-requires : goal.token_at-requires
token_at-requires c =
    let s = c.skip_blanks-i.ensures in
    let h : c.skip_blanks-i.result < length c.args.text.now = omega (arith, s.within, c.if-i-text.false) in
    record { within = h; no_blank = s.no_blank h; text_short = c.requires.text_short }

pub returns : goal.returns
returns c = told_after c.args.text.now _ _ c.skip_blanks-i.ensures c.token_at.result c.token_at.ensures
