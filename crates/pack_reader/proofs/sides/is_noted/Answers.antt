-- `pack_reader::sides::is_noted` meets its contract, test by test.
use native.Mathlib.Omega.{arith}
use borrow.Author.Tests.{lt-ltb, le-ltb}
use Rattle.pack_reader.proofs.Seen.{seen_symbol, seen_variable, seen_neither}
use Rattle.pack_reader.proofs.sides.is_noted.Goals as goal

pub returns-then-c-lt-MOST_SYMBOLS : goal.returns-then-c-lt-MOST_SYMBOLS
returns-then-c-lt-MOST_SYMBOLS c =
    let low = c.if-c-lt-MOST_SYMBOLS.true in
    λ cs. rw (lt-ltb _ _ low) (seen_symbol c.args.seen.now c.args.code cs (omega (arith, low, c.from-c.ensures)))

pub returns-then-c-lt-PAST_VARIABLES : goal.returns-then-c-lt-PAST_VARIABLES
returns-then-c-lt-PAST_VARIABLES c =
    let high = c.if-c-lt-MOST_SYMBOLS.false in
    λ cs. rw c.from-c.ensures (seen_variable c.args.seen.now c.args.code cs (omega (arith, high, c.from-c.ensures)))

pub returns-else-c-lt-PAST_VARIABLES : goal.returns-else-c-lt-PAST_VARIABLES
returns-else-c-lt-PAST_VARIABLES c =
    let past = c.if-c-lt-PAST_VARIABLES.false in
    λ cs. rw (le-ltb _ _ past) (seen_neither c.args.seen.now c.requires c.args.code cs (omega (arith, past, c.from-c.ensures)))
