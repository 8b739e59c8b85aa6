-- `teldyzhom::kept::arc_kept` meets its contract: first the two pairs, then the arc between them.
use native.Mathlib.Omega.{arith}
use Rattle.records.proofs.Outcomes.{handed_on}
use Rattle.pair_finder.proofs.Asked.{right_at}
use Rattle.teldyzhom.proofs.Entering.{no_pair, pair_at, first_missing, second_missing, may_ask, answers}
use Rattle.teldyzhom.proofs.kept.arc_kept.Goals as goal

pub returns-in_err-right : goal.returns-in_err-right
returns-in_err-right c = λ k.
    rw (handed_on c.from_residual.result c.from_residual.ensures.1)
    (first_missing k _ _ _ (no_pair _ _ _ _ _ (c.in_err-right.ensures k.system _ _ k.stored)))

pub returns-in_err-place_of : goal.returns-in_err-place_of
returns-in_err-place_of c = λ k.
    let first = pair_at _ _ _ _ _ (c.in_ok-right.ensures k.system _ _ k.stored) in
    rw (handed_on c.from_residual-in_err-place_of.result c.from_residual-in_err-place_of.ensures.1)
    (second_missing k _ _ _ first _ (no_pair _ _ _ _ _ (c.in_err-place_of.ensures k.system _ _ k.stored)))

pub skip-end-requires : goal.skip-end-requires
skip-end-requires c =
    let k = c.requires in
    let first = pair_at _ _ _ _ _ (c.in_ok-right.ensures k.system _ _ k.stored) in
    let second = pair_at _ _ _ _ _ (c.in_ok-place_of.ensures k.system _ _ k.stored) in
    (k.arrays.arities_long, omega (arith, k.arrays.nodes_long), right_at _ _ _ _ _ _ (may_ask k _ _ _ first second.0))

pub arc_to-requires : goal.arc_to-requires
arc_to-requires c =
    let k = c.requires in
    let first = pair_at _ _ _ _ _ (c.in_ok-right.ensures k.system _ _ k.stored) in
    let second = pair_at _ _ _ _ _ (c.in_ok-place_of.ensures k.system _ _ k.stored) in
    record { asked = may_ask k _ _ _ first second.0; ends = c.skip-end.ensures }

pub returns : goal.returns
returns c = λ k.
    let first = pair_at _ _ _ _ _ (c.in_ok-right.ensures k.system _ _ k.stored) in
    let second = pair_at _ _ _ _ _ (c.in_ok-place_of.ensures k.system _ _ k.stored) in
    answers k _ _ _ first second.0 _ c.arc_to.ensures
