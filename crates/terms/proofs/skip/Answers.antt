-- `terms::skip` meets its contract. The loop's invariant: an argument list of as many terms as are wanted is still to be
-- read, and it ends where the term ends.
use mathlib.Core.Path.{◌≡◌, refl, ap}
use mathlib.Core.List.{List, append-nil}
use Prim.Native.Nat.{ℕ, ◌+◌, ◌-◌, ◌<◌}
use native.Mathlib.Omega.{arith}
use lib.ListN.{length, get_or}
use Rattle.rewriting.specs.Terms.{nil, cons, is_list, is_term, well, width}
use Rattle.rewriting.proofs.Basics.{and_both}
use Rattle.terms.specs.Sides.{flat}
use Rattle.terms.specs.Kept.{TermAt, code_arity}
use Rattle.terms.proofs.Rests.{node_read, node_within, rest_none}
use Rattle.terms.proofs.skip.Invariants.{Left}
use Rattle.terms.proofs.skip.Goals as goal

whole : (arities nodes : List ℕ) (at : ℕ) (s : TermAt arities nodes at) → Left arities nodes at s 1 at
unfolding flat width is_list well is_term
whole arities nodes at s =
    let e : flat (cons s.term nil) ≡ flat s.term = append-nil (flat s.term) in
    record {
      rest = cons s.term nil;
      is = record { list = refl; is_well = and_both s.is refl; many = refl; kept = rw e s.kept };
      ends = ap (λ (n : ℕ). at + n) (ap length e);
    }

module _ (arities nodes : List ℕ) (at wanted i : ℕ) (s : TermAt arities nodes at) (h : 0 < wanted) (l : Left arities nodes at s wanted i) where
  within : i < length nodes
  within = node_within s.system arities nodes s.arities_are s.arities_few i wanted l.rest h l.is

  less : Left arities nodes at s (wanted - 1 + code_arity arities (get_or nodes i 0)) (i + 1)
  less =
      let n = node_read s.system arities nodes s.arities_are s.arities_few i wanted l.rest h l.is in
      record { rest = n.rest; is = n.is; ends = omega (arith, n.shorter, l.ends) }

pub loop-wanted-init : goal.loop-wanted-init
loop-wanted-init c = (omega arith, omega arith, λ s. whole _ _ _ s)

pub bounds-nodes-i : goal.bounds-nodes-i
bounds-nodes-i c =
    let l = c.loop-wanted in
    let s = c.requires.2 in
    within _ _ _ l.wanted l.i s c.loop-wanted-test.true (l.invariant.2 s)

pub overflow_add-wanted : goal.overflow_add-wanted
overflow_add-wanted c = let l = c.loop-wanted in let s = c.requires.2 in omega (arith, within _ _ _ l.wanted l.i s c.loop-wanted-test.true (l.invariant.2 s))

pub overflow_add-i : goal.overflow_add-i
overflow_add-i c = let l = c.loop-wanted in let s = c.requires.2 in omega (arith, within _ _ _ l.wanted l.i s c.loop-wanted-test.true (l.invariant.2 s))

pub loop-wanted-smaller : goal.loop-wanted-smaller
loop-wanted-smaller c = let l = c.loop-wanted in let s = c.requires.2 in omega (arith, within _ _ _ l.wanted l.i s c.loop-wanted-test.true (l.invariant.2 s))

pub loop-wanted-preserved : goal.loop-wanted-preserved
loop-wanted-preserved c =
    let l = c.loop-wanted in (
      omega arith,
      omega arith,
      λ s. rw c.code_arity.ensures.0 (less _ _ _ l.wanted l.i s c.loop-wanted-test.true (l.invariant.2 s)),
    )

pub returns : goal.returns
returns c =
    let l = c.loop-wanted in
    λ s.
    let t = l.invariant.2 s in
    let z : l.wanted ≡ 0 = omega arith in
    let n = rest_none s.system _ _ s.arities_are s.arities_few l.i t.rest (rw z at t.is) in
    omega (arith, n, t.ends)
