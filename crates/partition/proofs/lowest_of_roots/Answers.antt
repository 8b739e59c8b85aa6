-- `partition::lowest_of_roots` meets its contract. The loop's invariant: no root's component is above one of the first s rules'.
use Rattle.std.proofs.Common.{◌≡◌, arith}
use Rattle.partition.proofs.Keys.{more_roots}
use Rattle.partition.proofs.lowest_of_roots.Goals as goal

pub loop-s-init : goal.loop-s-init
loop-s-init c = (omega arith, record { long = c.requires.room_long; low = λ s h. absurd (omega arith) })

pub offset_bounds-pack-s : goal.offset_bounds-pack-s
offset_bounds-pack-s c = omega (arith, c.requires.begun.few)

pub bounds-pack-s : goal.bounds-pack-s
bounds-pack-s c = omega (arith, c.requires.begun.few, c.requires.begun.starts_long)

pub bounds-pack-at : goal.bounds-pack-at
bounds-pack-at c = omega (arith, c.from-at.ensures, c.requires.begun.within c.loop-s.s c.loop-s-test.true)

pub offset_bounds-lows-s : goal.offset_bounds-lows-s
offset_bounds-lows-s c = omega (arith, c.requires.begun.few)

pub bounds-lows-s : goal.bounds-lows-s
bounds-lows-s c = omega (arith, c.requires.begun.few, c.requires.lows_long)

pub loop-s-preserved : goal.loop-s-preserved
loop-s-preserved c =
    let l = c.loop-s in
    let a = c.args in
    (omega arith, more_roots a.pack.now.starts.now a.pack.now.nodes.now a.lows.now l.s l.roots _ l.invariant.1 (rw (c.from.ensures, c.from-at.ensures) at c.lower.ensures))

pub returns : goal.returns
returns c =
    let l = c.loop-s in
    let e : l.s ≡ c.args.pack.now.rules = omega arith in
    rw (← e) l.invariant.1
