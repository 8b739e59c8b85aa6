-- `teldyzhom::kept::check_kept` meets its contract: the certificate's refusal, then the judgement.
use mathlib.Core.Path.{◌∙◌}
use Rattle.records.proofs.Outcomes.{handed_on}
use Rattle.teldyzhom.proofs.Checks.{reading_asked, certificate_refused, certificate_found, certificate_stops, judgeable, judge_is}
use Rattle.teldyzhom.proofs.kept.check_kept.Goals as goal

pub read_components-requires : goal.read_components-requires
read_components-requires c = rw (c.view-view.ensures.0, c.view-view.ensures.1, c.view-view.ensures.2, c.view-view.ensures.3, c.view-view.ensures.4, c.view-view.ensures.5) (reading_asked c.requires)

pub returns-in_err-components : goal.returns-in_err-components
returns-in_err-components c = λ a.
    rw (handed_on c.from_residual.result c.from_residual.ensures.1)
    (certificate_stops a _ (certificate_refused _ _ ((rw (c.view-view.ensures.0, c.view-view.ensures.1, c.view-view.ensures.2, c.view-view.ensures.3, c.view-view.ensures.4, c.view-view.ensures.5) at c.in_err-components.ensures) a.system a.stored)))

pub judge-requires : goal.judge-requires
judge-requires c =
    let a = c.requires in
    judgeable a _ (certificate_found _ _ ((rw (c.view-view.ensures.0, c.view-view.ensures.1, c.view-view.ensures.2, c.view-view.ensures.3, c.view-view.ensures.4, c.view-view.ensures.5) at c.in_ok-components.ensures) a.system a.stored))

pub returns : goal.returns
returns c = λ a.
    let found = certificate_found _ _ ((rw (c.view-view.ensures.0, c.view-view.ensures.1, c.view-view.ensures.2, c.view-view.ensures.3, c.view-view.ensures.4, c.view-view.ensures.5) at c.in_ok-components.ensures) a.system a.stored) in
    c.accepted.ensures ∙ judge_is a _ found _ _ (c.judge.ensures (judgeable a _ found)).numbered
