-- `text_names::keep` meets its contract: the name has its hint, and is put in at its index where it is not kept and room is left.
-- The place of the first name without room is noted.
use Rattle.std.proofs.Common.{◌≡◌, None, sym, ◌∙◌, arith, rules}
use Rattle.text_names.proofs.Keeping.{kept_at_index, keeps_same, keeps_left_out, keeps_put}
use Rattle.text_names.proofs.keep.Goals as goal

pub returns-then-is_kept_at : goal.returns-then-is_kept_at
returns-then-is_kept_at c =
    keeps_same _ _ _ _ _ c.hash.ensures.0 (omega (arith, c.requires.within)) c.requires.from (λ e. kept_at_index _ _ _ _ _ (sym c.is_kept_at.ensures ∙ c.if-is_kept_at.true))

pub returns-then-from-lt-MOST_KEPT : goal.returns-then-from-lt-MOST_KEPT
returns-then-from-lt-MOST_KEPT c =
    keeps_put _ _ _ _ _ c.hash.ensures.0 (omega (arith, c.requires.within)) c.requires.from _ _ (rw c.from.ensures at c.if-from-lt-MOST_KEPT.true) c.search-k.ensures
    (sym c.is_kept_at.ensures ∙ c.if-is_kept_at.false) c.put.ensures

pub returns-then-is_none : goal.returns-then-is_none
returns-then-is_none c =
    let q = c.requires in
    let none : c.args.table.now.rest ≡ None = search rules in
    keeps_left_out _ _ _ _ _ c.hash.ensures.0 (omega (arith, q.within)) q.from none

pub returns-else-is_none : goal.returns-else-is_none
returns-else-is_none c =
    let some : (c.args.table.now.rest ≡ None) → ⊥ = λ e. search rules in
    keeps_same _ _ _ _ _ c.hash.ensures.0 (omega (arith, c.requires.within)) c.requires.from (λ e. absurd (some e))
