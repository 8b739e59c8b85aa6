-- `pack_reader::sides::left_side` meets its contract. The loop's invariant: what is left is balanced for the terms still wanted
-- exactly if the whole is for one, and the variables seen are those of the nodes passed.
use mathlib.Core.Path.{◌≡◌, refl}
use mathlib.Core.Bool.{false≢true}
use Prim.Native.Nat.{◌<◌}
use native.Mathlib.Omega.{arith}
use lib.ListN.{length}
use Rattle.terms.proofs.Parts.{part_none}
use Rattle.pack_reader.proofs.OneSide.{all_read, too_many, node_read, part_last}
use Rattle.pack_reader.proofs.Seen.{seen_none}
use Rattle.pack_reader.proofs.sides.left_side.Goals as goal

pub loop-i-init : goal.loop-i-init
loop-i-init c = (
  (omega arith, omega arith, omega arith, refl),
  (rw c.requires.none_seen, rw (c.requires.none_seen, part_none _ c.args.from c.args.from (omega arith)) seen_none),
)

pub returns-then-wanted-eq0 : goal.returns-then-wanted-eq0
returns-then-wanted-eq0 c =
    let l = c.loop-i in
    record {
      told = too_many _ _ _ _ _ _ l.invariant.0 (omega arith) (omega arith) c.if-wanted-eq0.true;
      long = l.invariant.1.0;
      variables = λ e. absurd (false≢true e);
    }

pub overflow_add-wanted : goal.overflow_add-wanted
overflow_add-wanted c = omega (arith, c.code_arity.ensures)

pub loop-i-preserved : goal.loop-i-preserved
loop-i-preserved c =
    let l = c.loop-i in
    let n = c.args.nodes.now in
    let inside : l.i < length n = omega arith in (
      rw c.code_arity.ensures.0 (node_read _ _ _ _ _ _ l.invariant.0 (omega arith) (omega arith) c.if-wanted-eq0.false (rw c.code_arity.ensures.0 at c.code_arity.ensures.1)),
      (c.note.ensures.0, rw (part_last n c.args.from l.i l.invariant.0.0 inside) (c.note.ensures.1 _ l.invariant.1.1)),
    )

pub returns : goal.returns
returns c =
    let l = c.loop-i in
    let z : l.i ≡ c.args.to = omega arith in
    record { told = all_read _ _ _ _ _ _ l.invariant.0 (omega arith); long = l.invariant.1.0; variables = λ e. rw z at l.invariant.1.1 }
