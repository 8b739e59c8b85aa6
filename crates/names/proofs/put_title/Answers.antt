-- A name that is too long has the bytes that are shown of it.
use Rattle.std.proofs.Common.{sym, arith}
use Rattle.std.proofs.Math.Seq.{length-take-le}
use Rattle.names.proofs.put_title.Goals as goal

pub slice_bounds-put_name-end : goal.slice_bounds-put_name-end
slice_bounds-put_name-end c = sym (length-take-le 64 c.args.name.now (omega arith))
