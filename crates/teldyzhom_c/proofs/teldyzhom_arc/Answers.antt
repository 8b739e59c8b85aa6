-- `teldyzhom_c::teldyzhom_arc` meets its contract: it tells `arc_runs`' answer in two numbers.
use mathlib.Core.Path.{◌≡◌, refl, ◌∙◌}
use mathlib.Core.Bool.{Bool, true, false}
use mir.Val.{bool_byte}
use Rattle.records.specs.Outcomes.{passed}
use Rattle.teldyzhom.specs.Entries.{arc_value}
use Rattle.teldyzhom_c.proofs.ForC.{arc_number, arc_told}
use Rattle.teldyzhom_c.proofs.teldyzhom_arc.Goals as goal

pub returns-in-Err-clause-number : goal.returns-in-Err-clause-number
returns-in-Err-clause-number c = c.from.ensures.0 ∙ (arc_number _ _ _ c.arc_runs.ensures c.in-Err.is).0

pub returns-in-Err-clause-value : goal.returns-in-Err-clause-value
returns-in-Err-clause-value c = c.from.ensures.1 ∙ (arc_number _ _ _ c.arc_runs.ensures c.in-Err.is).1

pub returns-in-Ok-clause-number : goal.returns-in-Ok-clause-number
returns-in-Ok-clause-number c = (arc_told _ _ _ c.arc_runs.ensures c.in-Ok.is).0

-- yes is 1, no is 0
told : (b : Bool) → bool_byte b ≡ arc_value (passed b)
unfolding arc_value
told true = refl
told false = refl

pub returns-in-Ok-clause-value : goal.returns-in-Ok-clause-value
returns-in-Ok-clause-value c = c.from-in-Ok.ensures ∙ told c.in-Ok.runs ∙ (arc_told _ _ _ c.arc_runs.ensures c.in-Ok.is).1
