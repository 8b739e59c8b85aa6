-- `teldyzhom::check_certificate` meets its contract: the judgement's number, and what accepting means of files that are bytes.
use mathlib.Core.Path.{sym, ap, ◌∙◌}
use Rattle.teldyzhom.specs.Entries.{checked_number}
use Rattle.teldyzhom.proofs.Checks.{accepting, is_accepted}
use Rattle.teldyzhom.proofs.check_certificate.Goals as goal

pub returns-clause-means : goal.returns-clause-means
returns-clause-means c =
    let says = c.judge_files.ensures in
    accepting _ _ _ c.all_bytes.ensures c.all_bytes-2.ensures (λ e. sym says ∙ ap checked_number e) (λ e. is_accepted _ (says ∙ e))
