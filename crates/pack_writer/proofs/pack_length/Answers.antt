-- `pack_writer::pack_length` meets its contract: a record a symbol, a rule and a node, and the last side ends after all nodes.
use native.Mathlib.Omega.{arith}
use Rattle.pack_writer.proofs.FromArrays.{pack_long}
use Rattle.pack_writer.proofs.pack_length.Goals as goal

pub returns : goal.returns
returns c = λ q. omega (arith, c.from.ensures, pack_long q.system _ _ _ c.args.pack.now.starts c.args.pack.now.nodes q.writable)
