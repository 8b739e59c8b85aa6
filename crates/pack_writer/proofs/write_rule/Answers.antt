-- `pack_writer::write_rule` meets its contract: R, then the nodes of both sides.
use native.Mathlib.Omega.{arith}
use Rattle.pack_writer.specs.Writing.{rule_between}
use Rattle.pack_writer.proofs.InBuffer.{written_one, written_then}
use Rattle.pack_writer.proofs.write_rule.Goals as goal

pub returns : goal.returns
unfolding rule_between
returns c =
    written_then _ _ _ _ _ (written_one c.args.at _ c.args.out.now _ c.write_record.ensures) (omega (arith, c.requires.fits)) _ _ _
    c.write_nodes.ensures
