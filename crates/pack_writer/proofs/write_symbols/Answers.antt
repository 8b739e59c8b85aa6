-- `pack_writer::write_symbols` meets its contract. The loop's invariant: the records of the first i symbols are written.
use mathlib.Core.Path.{◌≡◌, refl, ◌∙◌}
use Prim.Native.Nat.{◌+◌, ◌*◌}
use native.Mathlib.Omega.{arith}
use Rattle.packs.specs.Encoding.{symbol_records}
use Rattle.pack_writer.proofs.InBuffer.{written_none, written_more}
use Rattle.pack_writer.proofs.FromArrays.{symbols_more}
use Rattle.pack_writer.proofs.write_symbols.Goals as goal

pub loop-i-init : goal.loop-i-init
unfolding symbol_records
loop-i-init c = (omega arith, refl, written_none 0 _)

pub loop-i-preserved : goal.loop-i-preserved
loop-i-preserved c =
    let l = c.loop-i in
    let e : 8 * (l.i + 1) ≡ 8 * l.i + 8 = omega arith in (
      omega arith,
      c.write_record.auto.list ∙ l.invariant.1,
      rw (e, symbols_more c.args.pack.now.arities l.i (omega arith))
          (written_more 0 (8 * l.i) _ _ l.out l.invariant.2 (omega arith) _ _ (rw c.from.ensures at c.write_record.ensures)),
    )

pub returns : goal.returns
returns c =
    let l = c.loop-i in
    let e : l.i ≡ c.args.pack.now.symbols = omega arith in
    rw (← e) l.invariant.2
