-- `teldyzhom_c::teldyzhom_list` meets its contract: it tells `list_pairs`' answer in two numbers.
use mathlib.Core.Path.{◌∙◌}
use native.Mathlib.Omega.{arith}
use Rattle.teldyzhom_c.proofs.ForC.{listed_few, list_number, list_count}
use Rattle.teldyzhom_c.proofs.teldyzhom_list.Goals as goal

-- the count fits into 32 bits
pub overflow_cast-result : goal.overflow_cast-result
overflow_cast-result c = record { fits = omega (arith, listed_few _ _ _ _ c.list_pairs.ensures.says c.in-Ok.is) }

pub returns-in-Err-clause-number : goal.returns-in-Err-clause-number
returns-in-Err-clause-number c = c.from.ensures.0 ∙ (list_number _ _ _ c.list_pairs.ensures.says c.in-Err.is).0

pub returns-in-Err-clause-value : goal.returns-in-Err-clause-value
returns-in-Err-clause-value c = c.from.ensures.1 ∙ (list_number _ _ _ c.list_pairs.ensures.says c.in-Err.is).1

pub returns-in-Ok-clause-number : goal.returns-in-Ok-clause-number
returns-in-Ok-clause-number c = (list_count _ _ _ c.list_pairs.ensures.says c.in-Ok.is).0

pub returns-in-Ok-clause-value : goal.returns-in-Ok-clause-value
returns-in-Ok-clause-value c = (list_count _ _ _ c.list_pairs.ensures.says c.in-Ok.is).1
