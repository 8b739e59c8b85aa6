-- `pack_reader::sides::note` meets its contract: what was seen has the node's variable too.
use mathlib.Core.Path.{◌∙◌}
use mathlib.Core.Bool.{true}
use native.Mathlib.Omega.{arith}
use lib.ListN.{length-set}
use Rattle.pack_reader.proofs.Seen.{seen_same, seen_more}
use Rattle.pack_reader.proofs.sides.note.Goals as goal

pub returns-then-c-lt-PAST_VARIABLES : goal.returns-then-c-lt-PAST_VARIABLES
returns-then-c-lt-PAST_VARIABLES c =
    let low = c.if-c-ge-MOST_SYMBOLS.true in
    let high = c.if-c-lt-PAST_VARIABLES.true in (
      length-set c.args.seen.now _ true ∙ c.requires,
      λ cs s. rw c.from-c.ensures (seen_more cs c.args.code c.args.seen.now c.requires (omega (arith, low, c.from-c.ensures)) (omega (arith, high, c.from-c.ensures)) s),
    )

pub returns-else-c-ge-MOST_SYMBOLS : goal.returns-else-c-ge-MOST_SYMBOLS
returns-else-c-ge-MOST_SYMBOLS c =
    (c.requires, λ cs s. seen_same cs c.args.code c.args.seen.now (λ v h e. omega (arith, c.else-c-ge-MOST_SYMBOLS.either, c.from-c.ensures)) s)
