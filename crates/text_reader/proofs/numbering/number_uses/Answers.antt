-- `text_reader::numbering::number_uses` meets its contract. The loop's invariant, `SoFar` of UsesSoFar.antt: the uses so far are numbered,
-- and no side's start was moved.
use mathlib.Core.Path.{◌≡◌, refl, ◌∙◌}
use native.Mathlib.Omega.{arith}
use lib.ListN.{length}
use Rattle.text_reader.specs.Tables.{NumberingGoes}
use Rattle.text_reader.proofs.UsesSoFar.{none_yet, one_more, over, all_told}
use Rattle.text_reader.proofs.numbering.number_uses.Goals as goal

pub loop-u-init : goal.loop-u-init
loop-u-init c = (none_yet _ _ _ _ _ _ _ _ c.requires.tables, refl)

pub number_use-requires : goal.number_use-requires
number_use-requires c =
    let l = c.loop-u in
    let q = c.requires in
    let h = c.loop-u-test.true in
    record {
      names = q.names;
      kept = q.kept;
      within = rw c.from.ensures (q.places l.u-index h);
      count_few = rw c.from-in-loop-u.ensures (q.counts_few l.u-index h);
      tables = l.invariant.0.tables;
      room = omega (arith, h, l.invariant.0.nodes_many, q.room);
    }

pub returns-in_err-now : goal.returns-in_err-now
unfolding NumberingGoes
returns-in_err-now c =
    let l = c.loop-u in
    let r = c.in_err-now.ensures in
    rw c.from_residual.ensures (record {
      goes = r.goes;
      starts = r.starts ∙ l.invariant.1;
      told =
          λ vs x kept tables. over _ _ _ _ _ _ _ _ _ _ _ _ l.now l.u-index l.invariant.0 _ _ _ _ (rw (c.from.ensures, c.from-in-loop-u.ensures) at r.told) _ c.loop-u-test.true _ _ _ _ vs x kept tables;
    })

pub loop-u-preserved : goal.loop-u-preserved
loop-u-preserved c =
    let l = c.loop-u in
    let r = c.in_ok-now.ensures in
    (one_more _ _ _ _ _ _ _ _ _ _ _ _ l.now l.u-index l.invariant.0 _ _ _ _ _ r.goes (rw (c.from.ensures, c.from-in-loop-u.ensures) at r.told), r.starts ∙ l.invariant.1)

pub returns : goal.returns
unfolding NumberingGoes
returns c =
    let l = c.loop-u in
    let e : l.u-index ≡ length c.args.uses.now = omega arith in
    let so = l.invariant.0 in
    record {
      goes = (so.tables, so.nodes_many ∙ rw e);
      starts = l.invariant.1;
      told =
          λ vs x kept tables. all_told _ _ _ _ _ _ _ _ _ _ _ _ l.now l.u-index so _ e vs x kept tables;
    }
