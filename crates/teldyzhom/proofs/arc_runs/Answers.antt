-- `teldyzhom::arc_runs` meets its contract: the pack's answer first, then the question over it.
use Rattle.records.proofs.Outcomes.{handed_on}
use Rattle.teldyzhom.proofs.Entering.{pack_refused, pack_kept, system_kept, arc_refused}
use Rattle.teldyzhom.proofs.arc_runs.Goals as goal

pub returns-in_err-read_pack : goal.returns-in_err-read_pack
returns-in_err-read_pack c = rw (handed_on c.from_residual.result c.from_residual.ensures.1) (arc_refused _ _ _ _ (pack_refused _ _ _ c.in_err-read_pack.ensures))

pub arc_kept-requires : goal.arc_kept-requires
arc_kept-requires c = rw (c.view-view.ensures.1, c.view-view.ensures.2, c.view-view.ensures.3, c.view-view.ensures.4, c.view-view.ensures.5) (system_kept (pack_kept _ _ _ c.in_ok-read_pack.ensures))

pub returns : goal.returns
returns c =
    let k = pack_kept _ _ _ c.in_ok-read_pack.ensures in
    (rw (c.view-view.ensures.1, c.view-view.ensures.2, c.view-view.ensures.3, c.view-view.ensures.4, c.view-view.ensures.5) at c.arc_kept.ensures) (system_kept k) _ k.is
