-- `text_names::less_name` meets its contract. The loop's invariant: the names are in order where what is left of them is.
use Rattle.std.proofs.Common.{sym, ◌∙◌, arith}
use Rattle.text_tokens.proofs.Names.{character_within}
use Rattle.text_names.proofs.Order.{less_over, less_ended, less_differ, less_more}
use Rattle.text_names.proofs.less_name.Goals as goal

pub loop-d-smaller : goal.loop-d-smaller
loop-d-smaller c =
    let within = character_within _ _ _ (sym c.in-Some.ensures) in
    omega (arith, within)

pub loop-d-preserved : goal.loop-d-preserved
loop-d-preserved c =
    let goes_on = sym c.in-Some.ensures in
    let within = character_within _ _ _ goes_on in (
      omega (arith, within, c.requires.text_short),
      c.loop-d.invariant.1 ∙ less_more _ _ _ _ goes_on _ (sym c.in-Some-character.ensures) c.if-c-d.true _ _ (omega arith) (omega arith),
    )

pub returns-in-Some-2 : goal.returns-in-Some-2
returns-in-Some-2 c =
    sym (c.loop-d.invariant.1 ∙ less_differ _ _ _ _ (sym c.in-Some.ensures) _ (sym c.in-Some-character.ensures) c.if-c-d.false)

pub returns-in-None : goal.returns-in-None
returns-in-None c =
    sym (c.loop-d.invariant.1 ∙ less_ended _ _ _ _ (sym c.in-Some.ensures) (sym c.in-None.ensures))

pub returns : goal.returns
returns c =
    sym (c.loop-d.invariant.1 ∙ less_over _ _ _ (sym c.in_default.ensures))
