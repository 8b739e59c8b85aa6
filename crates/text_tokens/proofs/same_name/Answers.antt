-- `text_tokens::same_name` meets its contract. The loop's invariant: the names are the same where what is left of them is.
use Rattle.std.proofs.Common.{◌≡◌, ◌+◌, ◌<◌, length, get_or, Some, sym, ◌∙◌, rules, arith, tests}
use Rattle.text_tokens.specs.Told.{character}
use Rattle.text_tokens.proofs.Names.{character_more, character_within, character_is, same_end, same_differ, same_more}
use Rattle.text_tokens.proofs.same_name.Goals as goal

pub returns-then-ne : goal.returns-then-ne
returns-then-ne c =
    let g = c.args in
    let is = sym c.in-Some.ensures in
    let other : (character g.text.now (g.b + c.loop-c.i) ≡ Some c.in-Some.c) → ⊥ =
    λ e.
    let within = character_within _ _ _ e in
    let here : c.in-Some.c ≡ get_or g.text.now (g.b + c.loop-c.i) 0 = (character_is _ _ _ e).0 in
    search (rules, tests) in
    sym (c.loop-c.invariant.1 ∙ same_differ _ _ _ _ is other)

pub loop-c-smaller : goal.loop-c-smaller
loop-c-smaller c =
    let within = character_within _ _ _ (sym c.in-Some.ensures) in
    omega (arith, within)

pub loop-c-preserved : goal.loop-c-preserved
loop-c-preserved c =
    let g = c.args in
    let is = sym c.in-Some.ensures in
    let within = character_within _ _ _ is in
    let here : (g.b + c.loop-c.i < length g.text.now) × (get_or g.text.now (g.b + c.loop-c.i) 0 ≡ c.in-Some.c) = search rules in
    let met : character g.text.now (g.b + c.loop-c.i) ≡ Some c.in-Some.c = rw here.1 at (character_more _ _ here.0 (rw (← here.1) at (character_is _ _ _ is).1)) in
    (omega (arith, within), c.loop-c.invariant.1 ∙ same_more _ _ _ _ is met _ _ (omega arith) (omega arith))

pub returns : goal.returns
returns c =
    let ended = c.loop-c.invariant.1 ∙ same_end _ _ _ (sym c.in_default.ensures) in
    search (rules, ended)
