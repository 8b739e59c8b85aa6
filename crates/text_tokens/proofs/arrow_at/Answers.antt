-- `text_tokens::arrow_at` meets its contract: what stands after the dash decides.
use Rattle.std.proofs.Common.{◌≡◌, ◌+◌, ◌<◌, ◌≤◌, length, get_or, sym, ◌∙◌, rules, arith}
use Rattle.text_tokens.specs.Told.{Told}
use Rattle.text_tokens.proofs.Places.{dash_last, arrow_found, dash_other}
use Rattle.text_tokens.proofs.arrow_at.Goals as goal

pub returns-in-Some-eq62 : goal.returns-in-Some-eq62
unfolding Told
returns-in-Some-eq62 c =
    let q = c.requires in
    let text = c.args.text.now in
    let here : (c.args.i + 1 < length text) × (get_or text (c.args.i + 1) 0 ≡ 62) = search rules in
    arrow_found text c.args.i q.within q.dash here.0 here.1

pub returns-in_default : goal.returns-in_default
unfolding Told
returns-in_default c =
    let q = c.requires in
    let text = c.args.text.now in
    let here : (c.args.i + 1 < length text) × (get_or text (c.args.i + 1) 0 ≡ c.in_default.field-0.now) = search rules in
    let other : (c.in_default.field-0.now ≡ 62) → ⊥ = search rules in
    dash_other text c.args.i q.within q.dash here.0 (λ e. other (sym here.1 ∙ e))

pub returns-in_default-2 : goal.returns-in_default-2
unfolding Told
returns-in_default-2 c =
    let q = c.requires in
    let past : length c.args.text.now ≤ c.args.i + 1 = search rules in
    dash_last c.args.text.now c.args.i q.within q.dash (omega (arith, past, q.within))
