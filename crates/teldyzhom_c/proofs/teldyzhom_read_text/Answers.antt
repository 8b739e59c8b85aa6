-- `teldyzhom_c::teldyzhom_read_text` meets its contract: it tells `read_text`' answer in two numbers.
use mathlib.Core.Path.{◌∙◌}
use native.Mathlib.Omega.{arith}
use Rattle.teldyzhom_c.proofs.ForC.{length_small, text_number, text_length}
use Rattle.teldyzhom_c.proofs.teldyzhom_read_text.Goals as goal

-- the length fits into 32 bits
pub overflow_cast-result : goal.overflow_cast-result
overflow_cast-result c = record { fits = omega (arith, length_small _ _ _ _ c.read_text.ensures.says c.in-Ok.is) }

pub returns-in-Err-clause-number : goal.returns-in-Err-clause-number
returns-in-Err-clause-number c = c.from.ensures.0 ∙ (text_number _ _ _ c.read_text.ensures.says c.in-Err.is).0

pub returns-in-Err-clause-value : goal.returns-in-Err-clause-value
returns-in-Err-clause-value c = c.from.ensures.1 ∙ (text_number _ _ _ c.read_text.ensures.says c.in-Err.is).1

pub returns-in-Ok-clause-number : goal.returns-in-Ok-clause-number
returns-in-Ok-clause-number c = (text_length _ _ _ c.read_text.ensures.says c.in-Ok.is).0

pub returns-in-Ok-clause-value : goal.returns-in-Ok-clause-value
returns-in-Ok-clause-value c = (text_length _ _ _ c.read_text.ensures.says c.in-Ok.is).1
