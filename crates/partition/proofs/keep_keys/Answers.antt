-- `partition::keep_keys` meets its contract. The loop's invariant: the first s rules have their keys.
use Rattle.std.proofs.Common.{◌≡◌, arith}
use Rattle.partition.proofs.Keys.{more_keys}
use Rattle.partition.proofs.keep_keys.Goals as goal

pub loop-s-init : goal.loop-s-init
loop-s-init c =
    (omega arith, record { long = c.requires.room_long; small = λ s h. absurd (omega arith); key = λ s h. absurd (omega arith) })

pub offset_bounds-pack-s : goal.offset_bounds-pack-s
offset_bounds-pack-s c = omega (arith, c.requires.begun.few)

pub bounds-pack-s : goal.bounds-pack-s
bounds-pack-s c = omega (arith, c.requires.begun.few, c.requires.begun.starts_long)

pub bounds-pack-at : goal.bounds-pack-at
bounds-pack-at c = omega (arith, c.from-at.ensures, c.requires.begun.within c.loop-s.s c.loop-s-test.true)

pub offset_bounds-lows-s : goal.offset_bounds-lows-s
offset_bounds-lows-s c = omega (arith, c.requires.begun.few)

pub bounds-lows-s : goal.bounds-lows-s
bounds-lows-s c = omega (arith, c.requires.begun.few, c.requires.lows_long)

pub offset_bounds-keys-s : goal.offset_bounds-keys-s
offset_bounds-keys-s c = omega (arith, c.requires.begun.few)

pub bounds-keys-s : goal.bounds-keys-s
bounds-keys-s c = omega (arith, c.requires.begun.few, c.loop-s.invariant.1.long)

pub loop-s-preserved : goal.loop-s-preserved
loop-s-preserved c =
    let l = c.loop-s in
    let low = c.type_inv.lows l.s in
    (omega arith, rw (c.from-in-loop-s.ensures, c.from.ensures, c.from-at.ensures) (more_keys _ _ c.args.lows.now l.s l.keys l.invariant.1 (omega (arith, c.requires.begun.few)) (omega arith)))

pub returns : goal.returns
returns c =
    let l = c.loop-s in
    let e : l.s ≡ c.args.pack.now.rules = omega arith in
    rw (← e) l.invariant.1
