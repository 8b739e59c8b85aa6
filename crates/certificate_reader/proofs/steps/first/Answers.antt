-- `certificate_reader::steps::first` meets its contract.
use native.Mathlib.Omega.{arith}
use Rattle.certificate_reader.proofs.Mirrored.{first_none, first_one}
use Rattle.certificate_reader.proofs.steps.first.Goals as goal

pub returns-then-weightings-eq0 : goal.returns-then-weightings-eq0
returns-then-weightings-eq0 c = (first_none _ c.if-weightings-eq0.true, omega arith)

pub returns : goal.returns
returns c = (first_one _ c.if-weightings-eq0.false, omega arith)
