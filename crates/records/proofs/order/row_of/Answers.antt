-- `records::order::row_of` meets its contract, row by row, bit by bit.
use mathlib.Core.Path.{refl, ap}
use mathlib.Core.Logic.{⊎_elim}
use Rattle.records.specs.Order.{index, entry, order, when_in, lets, may_follow}
use Rattle.records.specs.Rows.{column_at, row_number, bit}
use Rattle.records.proofs.Table.{sum_below, distance, misses, row_misses, row_says}
use Rattle.records.proofs.order.row_of.Goals as goal

pub returns-in-StartOfPack : goal.returns-in-StartOfPack
unfolding index entry order when_in lets may_follow column_at bit sum_below distance misses row_misses
returns-in-StartOfPack c = row_says 0 (ap row_number c.in-StartOfPack.is) c.ever.ensures refl

pub returns-in-Symbol : goal.returns-in-Symbol
unfolding index entry order when_in lets may_follow column_at bit sum_below distance misses row_misses
returns-in-Symbol c = row_says 1 (ap row_number c.in-Symbol.is) c.ever-in-Symbol.ensures refl

pub returns-in-Rule : goal.returns-in-Rule
unfolding index entry order when_in lets may_follow column_at bit sum_below distance misses row_misses
returns-in-Rule c = row_says 2 (ap row_number c.in-Rule.is) c.ever-in-Rule.ensures refl

pub returns-in-Application : goal.returns-in-Application
unfolding index entry order when_in lets may_follow column_at bit sum_below distance misses row_misses
returns-in-Application c = ⊎_elim (λ e. row_says 3 (ap row_number e) c.counted.ensures refl) (λ e. row_says 4 (ap row_number e) c.counted.ensures refl) c.in-Application.is

pub returns-in-StartOfComponents : goal.returns-in-StartOfComponents
unfolding index entry order when_in lets may_follow column_at bit sum_below distance misses row_misses
returns-in-StartOfComponents c = row_says 5 (ap row_number c.in-StartOfComponents.is) c.ever-in-StartOfComponents.ensures refl

pub returns-in-Component : goal.returns-in-Component
unfolding index entry order when_in lets may_follow column_at bit sum_below distance misses row_misses
returns-in-Component c = row_says 6 (ap row_number c.in-Component.is) c.ever-in-Component.ensures refl

pub returns-in-Pair : goal.returns-in-Pair
unfolding index entry order when_in lets may_follow column_at bit sum_below distance misses row_misses
returns-in-Pair c = row_says 7 (ap row_number c.in-Pair.is) (refl, refl, refl) refl

pub returns-in-Weight : goal.returns-in-Weight
unfolding index entry order when_in lets may_follow column_at bit sum_below distance misses row_misses
returns-in-Weight c = row_says 8 (ap row_number c.in-Weight.is) c.ever-in-Weight.ensures refl

pub returns-in-Marked : goal.returns-in-Marked
unfolding index entry order when_in lets may_follow column_at bit sum_below distance misses row_misses
returns-in-Marked c = row_says 9 (ap row_number c.in-Marked.is) c.ever-in-Marked.ensures refl

pub returns-in-Weighting : goal.returns-in-Weighting
unfolding index entry order when_in lets may_follow column_at bit sum_below distance misses row_misses
returns-in-Weighting c = row_says 10 (ap row_number c.in-Weighting.is) c.ever-in-Weighting.ensures refl

pub returns-in-StartOfCertificate : goal.returns-in-StartOfCertificate
unfolding index entry order when_in lets may_follow column_at bit sum_below distance misses row_misses
returns-in-StartOfCertificate c = row_says 14 (ap row_number c.in-StartOfCertificate.is) c.ever-in-StartOfCertificate.ensures refl

pub returns-in-Counting : goal.returns-in-Counting
unfolding index entry order when_in lets may_follow column_at bit sum_below distance misses row_misses
returns-in-Counting c =
    ⊎_elim (λ e. row_says 11 (ap row_number e) c.ever-in-Counting.ensures refl)
    (⊎_elim (λ e. row_says 12 (ap row_number e) c.ever-in-Counting.ensures refl) (λ e. row_says 13 (ap row_number e) c.ever-in-Counting.ensures refl))
    c.in-Counting.is
