-- `text_grammar::rules_place` meets its contract: the word and the variables, then the rules behind them.
use Rattle.std.proofs.lemmas.Result.{err_from_is_err_and}
use Rattle.text_grammar.proofs.Sections.{place_told, names_told, no_variables, bad_variables, text_told}
use Rattle.text_grammar.proofs.rules_place.Goals as goal

pub returns-in_err-a : goal.returns-in_err-a
returns-in_err-a c =
    let p = err_from_is_err_and c.from_residual.result c.from_residual.ensures.1 in
    rw (p.1, p.2) (no_variables _ _ _ c.in_err-a.ensures)

pub read_variables-requires : goal.read_variables-requires
read_variables-requires c =
    let found = place_told _ _ _ c.in_ok-a.ensures in
    record { text_short = c.requires.text_short; within = found.1; empty = c.requires.empty }

pub returns-in_err-b : goal.returns-in_err-b
returns-in_err-b c =
    let found = place_told _ _ _ c.in_ok-a.ensures in
    let p = err_from_is_err_and c.from_residual-in_err-b.result c.from_residual-in_err-b.ensures.1 in
    rw (p.1, p.2) (bad_variables _ _ _ _ found.0 c.in_err-b.ensures)

pub rules_behind-requires : goal.rules_behind-requires
rules_behind-requires c =
    let named = names_told _ _ _ _ _ c.in_ok-b.ensures in
    record { within = named.1; variables = _; kept = named.2 }

pub returns : goal.returns
returns c =
    let found = place_told _ _ _ c.in_ok-a.ensures in
    let read = c.in_ok-b.ensures in
    text_told _ _ _ _ found.0 read _ (c.rules_behind.ensures _ (names_told _ _ _ _ _ read).2)
