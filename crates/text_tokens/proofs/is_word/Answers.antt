-- `text_tokens::is_word` meets its contract: the characters are those of the word, and no more follow.
use Rattle.std.proofs.Common.{suc, ◌≡◌, ◌+◌, ◌<◌, length, get_or, Some, sym, ◌∙◌, rules, arith, add-one, drop-cons, tests}
use lib.Seq.{drop-length}
use Rattle.text_tokens.specs.Told.{character}
use Rattle.text_tokens.proofs.Names.{same_none, same_other, same_first}
use Rattle.text_tokens.proofs.is_word.Goals as goal

pub returns-then-ne : goal.returns-then-ne
returns-then-ne c =
    let g = c.args in
    let i = c.loop-i.i in
    let within : i < length g.word.now = omega arith in
    let other : (character g.text.now (g.s + i) ≡ Some (get_or g.word.now i 0)) → ⊥ = λ e. search (rules, tests) in
    sym (rw (drop-cons g.word.now i 0 within) at c.loop-i.invariant ∙ same_other _ _ _ _ other)

pub loop-i-preserved : goal.loop-i-preserved
loop-i-preserved c =
    let g = c.args in
    let i = c.loop-i.i in
    let within : i < length g.word.now = omega arith in
    let met : character g.text.now (g.s + i) ≡ Some (get_or g.word.now i 0) = search (rules, tests) in
    rw (add-one i) (rw (drop-cons g.word.now i 0 within) at c.loop-i.invariant ∙ same_first _ _ _ _ met (g.s + suc i) (omega arith))

pub returns : goal.returns
returns c =
    let g = c.args in
    let e : c.loop-i.i ≡ length g.word.now = omega arith in
    let ended = rw (e, drop-length g.word.now) at c.loop-i.invariant ∙ same_none g.text.now (g.s + length g.word.now) in
    search (rules, ended)
