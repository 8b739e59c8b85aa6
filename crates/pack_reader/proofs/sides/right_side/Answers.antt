-- `pack_reader::sides::right_side` meets its contract. The loop's invariant: what is left is balanced for the terms still wanted
-- exactly if the whole is for one, and has only variables seen, with the nodes passed, exactly if the whole has.
use mathlib.Core.Path.{◌≡◌, refl, sym, ◌∙◌}
use mathlib.Core.Bool.{Bool, true, false, ◌&&◌, and-true}
use mathlib.Core.List.{List, ◌∷◌}
use Prim.Native.Nat.{ℕ, ◌+◌, ◌≤◌, ◌<◌}
use native.Mathlib.Omega.{arith}
use lib.ListN.{length, get_or}
use borrow.Author.Tests.{eq-eqb, ne_eqb}
use Rattle.terms.specs.Kept.{part}
use Rattle.terms.proofs.Parts.{part_none, part_more}
use Rattle.pack_reader.specs.Stored.{all_seen}
use Rattle.pack_reader.proofs.OneSide.{all_read, too_many, node_read}
use Rattle.pack_reader.proofs.sides.right_side.Invariants.{Closed}
use Rattle.pack_reader.proofs.sides.right_side.Goals.{then-closed, else-closed}
use Rattle.pack_reader.proofs.sides.right_side.Goals as goal

-- one node passed
one_passed : (sn : List Bool) (ns : List ℕ) (from to i : ℕ) (b r : Bool) → Closed sn ns from to i b → i < to → to ≤ length ns
    → ((cs : List ℕ) → all_seen sn (get_or ns i 0 ∷ cs) ≡ (r && all_seen sn cs)) → Closed sn ns from to (i + 1) (b && r)
one_passed sn ns from to i true r closed h k said = rw (part_more ns i to h k, said (part ns (i + 1) to)) at closed
one_passed sn ns from to i false r closed h k said = closed

all_passed : (sn : List Bool) (ns : List ℕ) (from to i : ℕ) (b : Bool) → Closed sn ns from to i b → to ≤ i → b ≡ all_seen sn (part ns from to)
unfolding all_seen
all_passed sn ns from to i b closed h = sym (and-true b) ∙ rw (part_none ns i to h) at closed

pub loop-i-init : goal.loop-i-init
loop-i-init c = ((omega arith, omega arith, omega arith, refl), refl)

pub returns-then-wanted-eq0 : goal.returns-then-wanted-eq0
returns-then-wanted-eq0 c = sym (too_many _ _ _ _ _ _ c.loop-i.invariant.0 (omega arith) (omega arith) c.if-wanted-eq0.true)

pub overflow_add-wanted : goal.overflow_add-wanted
overflow_add-wanted c = omega (arith, c.code_arity.ensures)

pub loop-i-preserved : goal.loop-i-preserved
loop-i-preserved c =
    let l = c.loop-i in
    let a = c.args in
    let inside : a.to ≤ length a.nodes.now = omega arith in (
      rw c.code_arity.ensures.0 (node_read _ _ _ _ _ _ l.invariant.0 (omega arith) inside c.if-wanted-eq0.false (rw c.code_arity.ensures.0 at c.code_arity.ensures.1)),
      elim c.if-closed.branch [
        | then-closed w ↦ rw (w.if-closed.true, ← w.closed-is) at (one_passed _ _ _ _ _ l.closed w.is_noted-closed.result l.invariant.1 (omega arith) inside w.is_noted-closed.ensures)
        | else-closed w ↦ rw (w.closed-is, w.if-closed.false) (rw w.if-closed.false at l.invariant.1)
      ],
    )

pub returns-then-wanted-eq0-2 : goal.returns-then-wanted-eq0-2
returns-then-wanted-eq0-2 c =
    let l = c.loop-i in
    (sym (all_read _ _ _ _ _ _ l.invariant.0 (omega arith)) ∙ eq-eqb _ _ c.if-wanted-eq0-2.true, all_passed _ _ _ _ _ l.closed l.invariant.1 (omega arith))

pub returns : goal.returns
returns c =
    let l = c.loop-i in
    sym (all_read _ _ _ _ _ _ l.invariant.0 (omega arith)) ∙ ne_eqb _ _ c.if-wanted-eq0-2.false
