-- `pair_finder::arcs::may_meet` meets its contract. The loop's invariant: whatever two lists were asked about, two lists are still
-- to be compared, and the answer is theirs.
use mathlib.Core.Path.{◌≡◌, refl, sym, ◌∙◌}
use mathlib.Core.Bool.{Bool, true, false, not, true≢false}
use mathlib.Core.List.{List}
use Prim.Native.Nat.{ℕ}
use native.Mathlib.Omega.{arith}
use borrow.Author.Tests.{eqb-true, eq-eqb, not-true}
use lib.Dec.{eqb}
use Rattle.rewriting.proofs.Basics.{and_left, and_right}
use Rattle.terms.specs.Kept.{TermAt}
use Rattle.pair_finder.specs.Walking.{jumps, enters}
use Rattle.pair_finder.proofs.Kept.{term_within, term_passed}
use Rattle.pair_finder.proofs.Walks.{at_hand, first_there, other_there}
use Rattle.pair_finder.proofs.Comparing.{compare_ends, compare_jumps, compare_stops, compare_enters}
use Rattle.pair_finder.proofs.arcs.may_meet.Goals as goal

-- the walk enters two terms with the same byte for a root, where it does not jump
module _ (ms : List ℕ) (both : Bool) (c d : ℕ) where
  no_jump : enters ms both c d ≡ true → (c ≡ d) × (jumps ms both c d ≡ false)
  unfolding enters
  no_jump h = (eqb-true c d (and_left (eqb c d) (not (jumps ms both c d)) h), not-true _ (and_right (eqb c d) (not (jumps ms both c d)) h))

  not_same : enters ms both c d ≡ false → jumps ms both c d ≡ false → c ≡ d → ⊥
  unfolding enters
  not_same h j e = true≢false (sym (rw (eq-eqb c d e, j)) ∙ h)

pub loop-i-init : goal.loop-i-init
loop-i-init c = λ w. record { firsts = w.first; others = w.other; lists = w.lists; known = refl }

pub bounds-pack-i : goal.bounds-pack-i
bounds-pack-i c =
    let first : TermAt c.args.pack.now.arities.now c.args.pack.now.nodes.now c.loop-i.i = let l = c.loop-i in
    first_there _ _ _ _ _ _ _ _ _ (at_hand _ _ _ _ _ _ _ l.i l.k (l.invariant c.requires) c.loop-i-test.true) in
    term_within _ _ _ first

pub bounds-pack-k : goal.bounds-pack-k
bounds-pack-k c =
    let other : TermAt c.args.pack.now.arities.now c.args.pack.now.nodes.now c.loop-i.k = let l = c.loop-i in
    other_there _ _ _ _ _ _ _ _ _ (at_hand _ _ _ _ _ _ _ l.i l.k (l.invariant c.requires) c.loop-i-test.true) in
    term_within _ _ _ other

pub overflow_add-i : goal.overflow_add-i
overflow_add-i c =
    let first : TermAt c.args.pack.now.arities.now c.args.pack.now.nodes.now c.loop-i.i = let l = c.loop-i in
    first_there _ _ _ _ _ _ _ _ _ (at_hand _ _ _ _ _ _ _ l.i l.k (l.invariant c.requires) c.loop-i-test.true) in
    omega (arith, term_within _ _ _ first)

pub overflow_add-k : goal.overflow_add-k
overflow_add-k c =
    let other : TermAt c.args.pack.now.arities.now c.args.pack.now.nodes.now c.loop-i.k = let l = c.loop-i in
    other_there _ _ _ _ _ _ _ _ _ (at_hand _ _ _ _ _ _ _ l.i l.k (l.invariant c.requires) c.loop-i-test.true) in
    omega (arith, term_within _ _ _ other)

pub loop-i-preserved-then-enters : goal.loop-i-preserved-then-enters
loop-i-preserved-then-enters c =
    λ w. let l = c.loop-i in
    let e = no_jump _ _ _ _ (sym c.enters.ensures ∙ c.if-enters.true) in
    compare_enters _ _ _ _ _ _ _ _ l.i l.k (l.invariant w) c.loop-i-test.true e.1 e.0

-- no jump, and not the same on both sides
pub returns-then-not-jumps : goal.returns-then-not-jumps
returns-then-not-jumps c =
    λ w. let l = c.loop-i in
    let j = sym c.jumps.ensures ∙ c.if-not-jumps.true in
    sym
    (compare_stops _ _ _ _ _ _ _ _ l.i l.k (l.invariant w) c.loop-i-test.true j (not_same _ _ _ _ (sym c.enters.ensures ∙ c.if-enters.false) j))

pub skip-i-requires : goal.skip-i-requires
skip-i-requires c =
    let first : TermAt c.args.pack.now.arities.now c.args.pack.now.nodes.now c.loop-i.i = let l = c.loop-i in
    first_there _ _ _ _ _ _ _ _ _ (at_hand _ _ _ _ _ _ _ l.i l.k (l.invariant c.requires) c.loop-i-test.true) in
    (c.requires.arities_long, c.requires.nodes_few, first)

pub skip-k-requires : goal.skip-k-requires
skip-k-requires c =
    let other : TermAt c.args.pack.now.arities.now c.args.pack.now.nodes.now c.loop-i.k = let l = c.loop-i in
    other_there _ _ _ _ _ _ _ _ _ (at_hand _ _ _ _ _ _ _ l.i l.k (l.invariant c.requires) c.loop-i-test.true) in
    (c.requires.arities_long, c.requires.others_few, other)

pub loop-i-smaller : goal.loop-i-smaller
loop-i-smaller c =
    let first : TermAt c.args.pack.now.arities.now c.args.pack.now.nodes.now c.loop-i.i = let l = c.loop-i in
    first_there _ _ _ _ _ _ _ _ _ (at_hand _ _ _ _ _ _ _ l.i l.k (l.invariant c.requires) c.loop-i-test.true) in
    omega (arith, c.loop-i-test.true, term_passed _ _ _ first c.skip-i.result (c.skip-i.ensures first))

pub loop-i-preserved : goal.loop-i-preserved
loop-i-preserved c =
    λ w. let l = c.loop-i in
    compare_jumps _ _ _ _ _ _ _ _ l.i l.k (l.invariant w) c.loop-i-test.true (sym c.jumps.ensures ∙ c.if-not-jumps.false) _ _
    c.skip-i.ensures c.skip-k.ensures

pub returns : goal.returns
returns c =
    λ w. let l = c.loop-i in sym (compare_ends _ _ _ _ _ _ _ _ l.i l.k (l.invariant w) c.loop-i-test.false)
