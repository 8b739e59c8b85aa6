-- `weights::judging::judge_call` meets its contract.
use mathlib.Core.Path.{sym, ◌∙◌}
use Rattle.weights.specs.Working.{SideSummed}
use Rattle.weights.proofs.Working.{as_call}
use Rattle.weights.proofs.Verdicts.{pair_left_over, pair_right_over, by_rising, by_staying, by_falling}
use Rattle.weights.proofs.judging.judge_call.Goals as goal

pub returns-then-over : goal.returns-then-over
unfolding SideSummed
returns-then-over c =
    λ there before l m ws ms x t k known.
    as_call _ _ _ _ _ _ l m ws ms _
    (pair_left_over ms ws l.side.term m.side.term _ (x l ws ms t k (λ h. (known h).0)) (sym c.over.ensures ∙ c.if-over.true))

pub returns-then-over-2 : goal.returns-then-over-2
unfolding SideSummed
returns-then-over-2 c =
    λ there before l m ws ms x t k known.
    as_call _ _ _ _ _ _ l m ws ms _
    (pair_right_over ms ws l.side.term m.side.term _ (x l ws ms t k (λ h. (known h).0)) _
    (c.marked_side.ensures.side_summed m ws ms t k (λ h. (known h).1)) (sym c.over-2.ensures ∙ c.if-over-2.true))

pub returns-then-not-all_at_least : goal.returns-then-not-all_at_least
unfolding SideSummed
returns-then-not-all_at_least c =
    λ there before l m ws ms x t k known.
    as_call _ _ _ _ _ _ l m ws ms _
    (by_rising ms ws l.side.term m.side.term _ (x l ws ms t k (λ h. (known h).0)) _
    (c.marked_side.ensures.side_summed m ws ms t k (λ h. (known h).1)) (sym c.over.ensures ∙ c.if-over.false)
    (sym c.over-2.ensures ∙ c.if-over-2.false) (sym c.all_at_least.ensures ∙ c.if-not-all_at_least.true))

pub returns-then-x-y : goal.returns-then-x-y
unfolding SideSummed
returns-then-x-y c =
    λ there before l m ws ms x t k known.
    as_call _ _ _ _ _ _ l m ws ms _
    (by_staying ms ws l.side.term m.side.term _ (x l ws ms t k (λ h. (known h).0)) _
    (c.marked_side.ensures.side_summed m ws ms t k (λ h. (known h).1)) (sym c.over.ensures ∙ c.if-over.false)
    (sym c.over-2.ensures ∙ c.if-over-2.false) (sym c.all_at_least.ensures ∙ c.if-not-all_at_least.false) c.if-x-y.true)

pub returns : goal.returns
unfolding SideSummed
returns c =
    λ there before l m ws ms x t k known.
    as_call _ _ _ _ _ _ l m ws ms _
    (by_falling ms ws l.side.term m.side.term _ (x l ws ms t k (λ h. (known h).0)) _
    (c.marked_side.ensures.side_summed m ws ms t k (λ h. (known h).1)) (sym c.over.ensures ∙ c.if-over.false)
    (sym c.over-2.ensures ∙ c.if-over-2.false) (sym c.all_at_least.ensures ∙ c.if-not-all_at_least.false) c.if-x-y.false)
