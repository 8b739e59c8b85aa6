-- `teldyzhom::list_pairs` meets its contract: the pack's answer first, then its pairs are counted and written.
use Rattle.records.proofs.Outcomes.{handed_on}
use Rattle.pair_finder.proofs.FromStore.{stored_laid}
use Rattle.teldyzhom.proofs.Entering.{pack_refused, pack_kept, Lists, lists_refused, lists_short, room_enough, lists_all}
use Rattle.teldyzhom.proofs.list_pairs.Goals as goal

pub returns-in_err-read_pack-clause-says : goal.returns-in_err-read_pack-clause-says
unfolding Lists
returns-in_err-read_pack-clause-says c =
    rw (handed_on c.from_residual.result c.from_residual.ensures.1) (lists_refused _ c.args.list.now _ (pack_refused _ _ _ c.in_err-read_pack.ensures)).0

pub returns-in_err-read_pack-clause-leaves : goal.returns-in_err-read_pack-clause-leaves
unfolding Lists
returns-in_err-read_pack-clause-leaves c = (lists_refused _ c.args.list.now _ (pack_refused _ _ _ c.in_err-read_pack.ensures)).1

pub count_pairs-n-requires : goal.count_pairs-n-requires
count_pairs-n-requires c =
    let k = pack_kept _ _ _ c.in_ok-read_pack.ensures in
    rw (c.view-view.ensures.1, c.view-view.ensures.3, c.view-view.ensures.4, c.view-view.ensures.5) (stored_laid _ _ _ _ _ _ _ k.stored k.room.starts_long, k.room.flags_long)

pub write_pairs-requires : goal.write_pairs-requires
write_pairs-requires c =
    let k = pack_kept _ _ _ c.in_ok-read_pack.ensures in
    rw (c.view-view.ensures.1, c.view-view.ensures.3, c.view-view.ensures.4, c.view-view.ensures.5) (
      stored_laid _ _ _ _ _ _ _ k.stored k.room.starts_long,
      k.room.flags_long,
      room_enough _ _ k c.args.list.now _ (rw (c.view-view.ensures.1, c.view-view.ensures.3, c.view-view.ensures.4, c.view-view.ensures.5) at c.count_pairs-n.ensures) c.if-list-n.false,
    )

pub returns-then-list-n-clause-says : goal.returns-then-list-n-clause-says
unfolding Lists
returns-then-list-n-clause-says c =
    (lists_short _ _ (pack_kept _ _ _ c.in_ok-read_pack.ensures) c.args.list.now _ (rw (c.view-view.ensures.1, c.view-view.ensures.3, c.view-view.ensures.4, c.view-view.ensures.5) at c.count_pairs-n.ensures) c.if-list-n.true).0

pub returns-then-list-n-clause-leaves : goal.returns-then-list-n-clause-leaves
unfolding Lists
returns-then-list-n-clause-leaves c =
    (lists_short _ _ (pack_kept _ _ _ c.in_ok-read_pack.ensures) c.args.list.now _ (rw (c.view-view.ensures.1, c.view-view.ensures.3, c.view-view.ensures.4, c.view-view.ensures.5) at c.count_pairs-n.ensures) c.if-list-n.true).1

pub returns-clause-says : goal.returns-clause-says
unfolding Lists
returns-clause-says c =
    (lists_all _ _ (pack_kept _ _ _ c.in_ok-read_pack.ensures) c.args.list.now _ (rw (c.view-view.ensures.1, c.view-view.ensures.3, c.view-view.ensures.4, c.view-view.ensures.5) at c.count_pairs-n.ensures) c.if-list-n.false _ (rw (c.view-view.ensures.1, c.view-view.ensures.3, c.view-view.ensures.4, c.view-view.ensures.5) at c.write_pairs.ensures)).0

pub returns-clause-leaves : goal.returns-clause-leaves
unfolding Lists
returns-clause-leaves c =
    (lists_all _ _ (pack_kept _ _ _ c.in_ok-read_pack.ensures) c.args.list.now _ (rw (c.view-view.ensures.1, c.view-view.ensures.3, c.view-view.ensures.4, c.view-view.ensures.5) at c.count_pairs-n.ensures) c.if-list-n.false _ (rw (c.view-view.ensures.1, c.view-view.ensures.3, c.view-view.ensures.4, c.view-view.ensures.5) at c.write_pairs.ensures)).1
