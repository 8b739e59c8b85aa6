-- `text_tokens::character` meets its contract: a byte of a name is its character, and there is none past the text or at another byte.
use Rattle.std.proofs.Common.{◌≡◌, ◌≤◌, length, get_or, sym, ◌∙◌, rules}
use Rattle.text_tokens.proofs.Places.{name_no_more}
use Rattle.text_tokens.proofs.Names.{name_past, character_none, character_more}
use Rattle.text_tokens.proofs.character.Goals as goal

pub returns-in-Some : goal.returns-in-Some
returns-in-Some c =
    let found = c.in-Some.ensures.lookup in
    let is : c.in-Some.field-0.now ≡ get_or c.args.text.now c.args.i 0 = search rules in
    sym (rw (← is) at (character_more c.args.text.now c.args.i found.3.0 (rw is at (sym c.in_name.ensures ∙ c.if-in_name.true))))

pub returns-in_default : goal.returns-in_default
returns-in_default c =
    let found = c.in-Some.ensures.lookup in
    let is : c.in-Some.field-0.now ≡ get_or c.args.text.now c.args.i 0 = search rules in
    sym (character_none c.args.text.now c.args.i (name_no_more c.args.text.now c.args.i found.3.0 (rw is at (sym c.in_name.ensures ∙ c.if-in_name.false))))

pub returns-in_default-2 : goal.returns-in_default-2
returns-in_default-2 c =
    let past : length c.args.text.now ≤ c.args.i = search rules in
    sym (character_none c.args.text.now c.args.i (name_past c.args.text.now c.args.i past))
