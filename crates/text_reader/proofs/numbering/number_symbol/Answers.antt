-- `text_reader::numbering::number_symbol` meets its contract: a symbol that is found has its number if the counts agree, another one gets
-- the next.
use mathlib.Core.Path.{refl, sym, ◌∙◌}
use mathlib.Core.Bool.{and-false}
use native.Mathlib.Omega.{arith}
use borrow.Author.Tests.{le-ltb, lt-leb}
use lib.Dec.{ltb}
use Rattle.packs.specs.PackReading.{most_symbols, most_arity}
use Rattle.text_tokens.specs.Told.{name_at}
use Rattle.text_reader.specs.Tables.{with_name, symbol_known, symbol_new, other_count, symbol_over}
use Rattle.text_reader.proofs.Entries.{among_found, among_missed}
use Rattle.text_reader.proofs.numbering.number_symbol.Goals as goal

pub returns-then-from-count : goal.returns-then-from-count
returns-then-from-count c =
    let f = c.in-Some.ensures in
    let a = c.args in
    other_count
    (among_found a.text.now a.symbols.now (name_at a.text.now a.s) a.n c.in-Some.i f.0 f.1)
    (λ e. c.if-from-count.true (c.from.ensures ∙ rw f.0 (sym e)))

pub returns-in-Some : goal.returns-in-Some
returns-in-Some c =
    let f = c.in-Some.ensures in
    let a = c.args in
    symbol_known c.in-Some.i f.0
    (among_found a.text.now a.symbols.now (name_at a.text.now a.s) a.n c.in-Some.i f.0 f.1)
    (sym c.if-from-count.false ∙ c.from.ensures) refl refl

pub returns-then-n-ge-MOST_SYMBOLS : goal.returns-then-n-ge-MOST_SYMBOLS
returns-then-n-ge-MOST_SYMBOLS c =
    let a = c.args in
    symbol_over
    (among_missed a.text.now a.symbols.now (name_at a.text.now a.s) a.n a.n c.in_default.ensures (omega arith))
    (rw (le-ltb a.n most_symbols (omega arith)))

pub returns-then-count-gt-MOST_ARITY : goal.returns-then-count-gt-MOST_ARITY
returns-then-count-gt-MOST_ARITY c =
    let a = c.args in
    symbol_over
    (among_missed a.text.now a.symbols.now (name_at a.text.now a.s) a.n a.n c.in_default.ensures (omega arith))
    (rw (lt-leb a.count most_arity (omega arith)) (and-false (ltb a.n most_symbols)))

pub entry-requires : goal.entry-requires
entry-requires c =
    let g = c.requires.find.given in
    (omega (arith, g.within, g.text_short), g.hash_small)

pub returns : goal.returns
unfolding with_name
returns c =
    let a = c.args in
    symbol_new
    (among_missed a.text.now a.symbols.now (name_at a.text.now a.s) a.n a.n c.in_default.ensures (omega arith))
    (omega arith) (omega arith) (rw c.entry.ensures) refl
