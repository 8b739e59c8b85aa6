-- `certificate_reader::steps::is_marked_place` meets its contract: a place of the symbol, and then the symbol's flag.
use mathlib.Core.Path.{sym, ◌∙◌}
use native.Mathlib.Omega.{arith}
use borrow.Author.Tests.{ltb-true}
use Rattle.rewriting.proofs.Basics.{and_left}
use Rattle.certificate_reader.proofs.steps.is_marked_place.Goals as goal

pub returns-then-not-is_place : goal.returns-then-not-is_place
returns-then-not-is_place c = let placed = c.is_place in rw (← placed.ensures, c.if-not-is_place.true)

pub overflow_cast-f : goal.overflow_cast-f
overflow_cast-f c =
    let placed = c.is_place in
    let holds = sym placed.ensures ∙ c.if-not-is_place.false in
    omega (arith, ltb-true c.args.f.0 c.args.pack.now.symbols (and_left _ _ holds))

pub returns : goal.returns
returns c =
    let placed = c.is_place in
    rw (← placed.ensures, c.if-not-is_place.false) c.is_defined.ensures
