-- `text_grammar::rules_behind` meets its contract: the word, then the rules.
use mathlib.Core.Path.{sym, ◌∙◌}
use Rattle.std.proofs.lemmas.Result.{err_from_is_err_and}
use Rattle.text_grammar.proofs.Sections.{place_told, behind_refused, behind_told, none_behind}
use Rattle.text_grammar.proofs.rules_behind.Goals as goal

pub returns-in_err-r : goal.returns-in_err-r
returns-in_err-r c =
    λ vs k.
    let p = err_from_is_err_and c.from_residual.result c.from_residual.ensures.1 in
    rw (p.1, p.2) (behind_refused _ vs _ _ c.in_err-r.ensures)

pub rules_stand-requires : goal.rules_stand-requires
rules_stand-requires c = record { within = (place_told _ _ _ c.in_ok-r.ensures).1; variables = c.requires.variables; kept = c.requires.kept }

pub returns-then-rules_stand : goal.returns-then-rules_stand
returns-then-rules_stand c =
    λ vs k. behind_told _ vs _ _ c.in_ok-r.ensures (sym c.if-rules_stand.true ∙ c.rules_stand.ensures vs k)

pub returns : goal.returns
returns c =
    λ vs k. none_behind _ vs _ _ c.in_ok-r.ensures (sym c.if-rules_stand.false ∙ c.rules_stand.ensures vs k)
