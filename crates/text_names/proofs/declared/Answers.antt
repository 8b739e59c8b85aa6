-- `text_names::declared` meets its contract.
use mathlib.Core.Path.{sym, ◌∙◌}
use native.Mathlib.Omega.{arith}
use Rattle.text_tokens.specs.Told.{name_at}
use Rattle.text_names.specs.Table.{KeptAt}
use Rattle.text_names.proofs.Hashes.{hint_is}
use Rattle.text_names.proofs.Keeping.{kept_at_index, not_kept, no_hint, hint_listed, kept_listed, unkept_unlisted, unkept_left_out}
use Rattle.text_names.proofs.declared.Goals as goal

pub returns-in_default : goal.returns-in_default
returns-in_default c =
    λ vs v. sym (no_hint _ _ _ vs vs v.holds _ (hint_is _ c.args.h c.requires.hash_is) c.in_default.is)

pub same_name-requires : goal.same_name-requires
same_name-requires c =
    let q = c.requires in
    let place = q.kept.holds.hints.places _ _ c.in-Some.is in
    (omega (arith, place, q.kept.text_short, c.from.ensures), omega (arith, q.within, q.kept.text_short), q.kept.text_short)

pub returns-then-same_name : goal.returns-then-same_name
returns-then-same_name c =
    λ vs v. sym (hint_listed _ _ _ vs vs v.holds _ _ c.in-Some.is (rw c.from.ensures at (sym c.same_name.ensures ∙ c.if-same_name.true)))

pub returns-then-is_kept_at : goal.returns-then-is_kept_at
returns-then-is_kept_at c =
    λ vs v. sym (kept_listed _ _ _ vs vs v.holds (kept_at_index _ _ _ _ _ (sym c.is_kept_at.ensures ∙ c.if-is_kept_at.true)))

pub is_listed-requires : goal.is_listed-requires
is_listed-requires c =
    let q = c.requires in
    record { text_short = q.kept.text_short; within = omega (arith, (q.kept.holds.rest _ c.in-Some-rest.is).within, c.from-in-Some-rest.ensures); name_within = q.within }

pub returns-in-Some-rest : goal.returns-in-Some-rest
returns-in-Some-rest c =
    let unkept : let g = c.args in KeptAt g.text.now g.table.now.names g.table.now.count (name_at g.text.now g.s) → ⊥ = let q = c.requires in
    not_kept _ _ _ _ _ q.kept.holds.names.rising c.search-k.ensures (sym c.is_kept_at.ensures ∙ c.if-is_kept_at.false) in
    λ vs v. (rw c.from-in-Some-rest.ensures at c.is_listed.ensures) ∙ sym (unkept_left_out _ _ _ vs vs v.holds unkept _ c.in-Some-rest.is)

pub returns-in-None : goal.returns-in-None
returns-in-None c =
    let unkept : let g = c.args in KeptAt g.text.now g.table.now.names g.table.now.count (name_at g.text.now g.s) → ⊥ = let q = c.requires in
    not_kept _ _ _ _ _ q.kept.holds.names.rising c.search-k.ensures (sym c.is_kept_at.ensures ∙ c.if-is_kept_at.false) in
    λ vs v. sym (unkept_unlisted _ _ _ vs vs v.holds unkept c.in-None.is)
