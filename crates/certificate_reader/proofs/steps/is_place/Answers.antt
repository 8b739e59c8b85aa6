-- `certificate_reader::steps::is_place` meets its contract: its two tests are the symbol's and the place's.
use mathlib.Core.Path.{refl}
use borrow.Author.Tests.{lt-ltb, le-ltb}
use Rattle.certificate_reader.proofs.steps.is_place.Goals as goal

pub returns-then-pack-a : goal.returns-then-pack-a
returns-then-pack-a c = rw (le-ltb _ _ (rw c.from-a.ensures at c.if-pack-a.true))

pub returns : goal.returns
returns c = rw (lt-ltb _ _ (rw c.from-a.ensures at c.if-pack-a.false), rw c.from-a.ensures at c.from.ensures) refl
