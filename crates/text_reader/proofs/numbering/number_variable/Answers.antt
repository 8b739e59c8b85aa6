-- `text_reader::numbering::number_variable` meets its contract: a name that is found has its number, another one gets the next.
use mathlib.Core.Path.{refl}
use native.Mathlib.Omega.{arith}
use Rattle.text_tokens.specs.Told.{name_at}
use Rattle.text_reader.specs.Tables.{with_name, variable_known, variable_new, variables_full}
use Rattle.text_reader.proofs.Entries.{among_found, among_missed}
use Rattle.text_reader.proofs.numbering.number_variable.Goals as goal

pub returns-in-Some : goal.returns-in-Some
returns-in-Some c =
    let f = c.in-Some.ensures in
    let a = c.args in
    variable_known c.in-Some.i f.0 (among_found a.text.now a.variables.now (name_at a.text.now a.s) a.n c.in-Some.i f.0 f.1) refl

pub returns-then-n-ge-MOST_VARIABLES : goal.returns-then-n-ge-MOST_VARIABLES
returns-then-n-ge-MOST_VARIABLES c =
    let a = c.args in
    variables_full (among_missed a.text.now a.variables.now (name_at a.text.now a.s) a.n a.n c.in_default.ensures (omega arith)) (omega arith)

pub entry-requires : goal.entry-requires
entry-requires c =
    let g = c.requires.find.given in
    (omega (arith, g.within, g.text_short), g.hash_small)

pub returns : goal.returns
unfolding with_name
returns c =
    let a = c.args in
    variable_new (among_missed a.text.now a.variables.now (name_at a.text.now a.s) a.n a.n c.in_default.ensures (omega arith)) (omega arith)
    (rw c.entry.ensures)
