-- `weights::judging::judge_rule` meets its contract.
use mathlib.Core.Path.{sym, ◌∙◌}
use mathlib.Core.Bool.{true, false}
use Rattle.polynomials.specs.Polynomials.{at_least}
use Rattle.weights.specs.Working.{verdict}
use Rattle.weights.proofs.Working.{as_rule}
use Rattle.weights.proofs.Verdicts.{left_over, right_over, by_least}
use Rattle.weights.proofs.judging.judge_rule.Goals as goal

pub returns-then-over : goal.returns-then-over
returns-then-over c =
    λ l m ws ms t.
    as_rule _ _ _ _ _ _ l m ws ms _
    (left_over ws ws l.term m.term _ (c.side.ensures.summed l ws t) at_least (sym c.over.ensures ∙ c.if-over.true))

pub returns-then-over-2 : goal.returns-then-over-2
returns-then-over-2 c =
    λ l m ws ms t.
    let x = c.side.ensures.summed l ws t in
    as_rule _ _ _ _ _ _ l m ws ms _
    (right_over ws ws l.term m.term _ x _ (c.side-2.ensures.summed m ws t) at_least (sym c.over-2.ensures ∙ c.if-over-2.true))

pub returns-then-all_at_least : goal.returns-then-all_at_least
unfolding verdict
returns-then-all_at_least c =
    λ l m ws ms t.
    as_rule _ _ _ _ _ _ l m ws ms _
    (by_least ws ws l.term m.term _ (c.side.ensures.summed l ws t) _ (c.side-2.ensures.summed m ws t)
    (sym c.over.ensures ∙ c.if-over.false) (sym c.over-2.ensures ∙ c.if-over-2.false) true
    (sym c.all_at_least.ensures ∙ c.if-all_at_least.true))

pub returns : goal.returns
unfolding verdict
returns c =
    λ l m ws ms t.
    as_rule _ _ _ _ _ _ l m ws ms _
    (by_least ws ws l.term m.term _ (c.side.ensures.summed l ws t) _ (c.side-2.ensures.summed m ws t)
    (sym c.over.ensures ∙ c.if-over.false) (sym c.over-2.ensures ∙ c.if-over-2.false) false
    (sym c.all_at_least.ensures ∙ c.if-all_at_least.false))
