-- `pack_reader::rules::flag_defined` meets its contract. The loop's invariant: the flags are those of the rules passed.
use mathlib.Core.Path.{◌≡◌, ◌∙◌}
use native.Mathlib.Omega.{arith}
use lib.ListN.{length, length-set, length-replicate}
use Rattle.pack_reader.proofs.Flags.{flagged_none, flagged_more, flagged_same}
use Rattle.pack_reader.proofs.rules.flag_defined.Goals.{then-c-lt-MOST_SYMBOLS, else-c-lt-MOST_SYMBOLS}
use Rattle.pack_reader.proofs.rules.flag_defined.Goals as goal

pub loop-i-init : goal.loop-i-init
loop-i-init c =
    let cleared = c.fill.ensures in
    let flags = c.args.defined.now in
    rw (cleared.after (λ y e. e)) (length-replicate (length flags) 0 ∙ c.requires.flags_long, flagged_none _ _ (length flags) (omega (arith, c.requires.flags_long)))

pub bounds-nodes-at : goal.bounds-nodes-at
bounds-nodes-at c = rw c.from-at.ensures (c.requires.within c.loop-i.i (omega arith))

pub loop-i-preserved : goal.loop-i-preserved
loop-i-preserved c =
    let l = c.loop-i in
    elim c.if-c-lt-MOST_SYMBOLS.branch [
      | then-c-lt-MOST_SYMBOLS w ↦ rw (w.defined-is, c.from-c.ensures, c.from-at.ensures) (length-set l.defined _ 1 ∙ l.invariant.0, flagged_more _ _ l.defined l.i l.invariant.1 l.invariant.0 (rw (c.from-c.ensures, c.from-at.ensures) at w.if-c-lt-MOST_SYMBOLS.true))
      | else-c-lt-MOST_SYMBOLS w ↦ rw w.defined-is (l.invariant.0, flagged_same _ _ l.defined l.i l.invariant.1 (rw (c.from-c.ensures, c.from-at.ensures) at w.if-c-lt-MOST_SYMBOLS.false))
    ]

pub returns : goal.returns
returns c = let l = c.loop-i in let z : l.i ≡ c.args.rules = omega arith in rw z at l.invariant.1
