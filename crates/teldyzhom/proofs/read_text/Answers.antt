-- `teldyzhom::read_text` meets its contract: the text's answer first, then its pack is measured and written.
use Rattle.records.proofs.Outcomes.{handed_on}
use Rattle.teldyzhom.proofs.Reading.{text_refused, text_kept, Reads, reads_refused, reads_short, may_write, reads_all}
use Rattle.teldyzhom.proofs.read_text.Goals as goal

pub returns-in_err-read_text-clause-says : goal.returns-in_err-read_text-clause-says
unfolding Reads
returns-in_err-read_text-clause-says c =
    rw (handed_on c.from_residual.result c.from_residual.ensures.1) (reads_refused _ c.args.pack.now _ (text_refused _ _ _ c.in_err-read_text.ensures)).0

pub returns-in_err-read_text-clause-leaves : goal.returns-in_err-read_text-clause-leaves
unfolding Reads
returns-in_err-read_text-clause-leaves c = (reads_refused _ c.args.pack.now _ (text_refused _ _ _ c.in_err-read_text.ensures)).1

pub pack_length-size-requires : goal.pack_length-size-requires
pack_length-size-requires c = (text_kept _ _ _ c.in_ok-read_text.ensures).pack

pub write_pack-requires : goal.write_pack-requires
write_pack-requires c =
    may_write _ _ (text_kept _ _ _ c.in_ok-read_text.ensures) c.args.pack.now _ c.pack_length-size.ensures c.if-pack-size.false

pub returns-then-pack-size-clause-says : goal.returns-then-pack-size-clause-says
unfolding Reads
returns-then-pack-size-clause-says c =
    (reads_short _ _ (text_kept _ _ _ c.in_ok-read_text.ensures) c.args.pack.now _ c.pack_length-size.ensures c.if-pack-size.true).0

pub returns-then-pack-size-clause-leaves : goal.returns-then-pack-size-clause-leaves
unfolding Reads
returns-then-pack-size-clause-leaves c =
    (reads_short _ _ (text_kept _ _ _ c.in_ok-read_text.ensures) c.args.pack.now _ c.pack_length-size.ensures c.if-pack-size.true).1

pub returns-clause-says : goal.returns-clause-says
unfolding Reads
returns-clause-says c =
    (reads_all _ _ (text_kept _ _ _ c.in_ok-read_text.ensures) c.args.pack.now _ c.pack_length-size.ensures c.if-pack-size.false _ c.write_pack.ensures).0

pub returns-clause-leaves : goal.returns-clause-leaves
unfolding Reads
returns-clause-leaves c =
    (reads_all _ _ (text_kept _ _ _ c.in_ok-read_text.ensures) c.args.pack.now _ c.pack_length-size.ensures c.if-pack-size.false _ c.write_pack.ensures).1
