-- Another byte that ends no line.
use Rattle.std.proofs.Common.{arith}
use Rattle.lists.specs.Lists.{Refilled}
use Rattle.lists.proofs.Taking.{kept, still}
use Rattle.lists.proofs.take_line.Goals.{then-to-from+in_ok-w+else-from-to, else-to-from}
use Rattle.lists.proofs.take_line.Goals as goal

pub loop-bytes-preserved : goal.loop-bytes-preserved
loop-bytes-preserved g c =
    let l = c.loop-bytes in
    let now = c.if-to-from in
    let stands : Refilled l.from l.to l.window (record { from = now.from; to = now.to }) now.window =
    elim now.branch [
      | then-to-from+in_ok-w+else-from-to w ↦ rw (w.window-is, w.from-is, w.to-is) w.in_ok-w.ensures.keeps
      | else-to-from w ↦ rw (w.window-is, w.from-is, w.to-is) (kept l.from l.to l.window (omega arith) l.invariant.within)
    ] in
    record {
      within = stands.within;
      ends_within = l.invariant.ends_within;
      so_far = still c.args.ends c.args.window.now c.args.at c.args.end l.invariant.ends_within l.window l.line now.window l.from l.to l.bytes (record { from = now.from; to = now.to }) l.invariant.so_far stands (omega arith) c.if-c-ends.false;
    }
