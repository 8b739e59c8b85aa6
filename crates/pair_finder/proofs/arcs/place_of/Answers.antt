-- `pair_finder::arcs::place_of` meets its contract: its three tests are those that decide a pair of a pack that was read.
use native.Mathlib.Omega.{arith}
use borrow.Author.Tests.{lt-ltb, le-ltb}
use Rattle.pair_finder.specs.Walking.{PlaceAnswer}
use Rattle.pair_finder.proofs.FromStore.{stored_place}
use Rattle.pair_finder.proofs.arcs.place_of.Goals as goal

pub returns-then-pack-rule : goal.returns-then-pack-rule
unfolding PlaceAnswer
returns-then-pack-rule c =
    λ p symbols arities s. rw (stored_place p symbols _ arities _ _ _ s _ _, le-ltb _ _ c.if-pack-rule.true)

pub overflow_sub-to : goal.overflow_sub-to
overflow_sub-to c = rw (c.from-from.ensures, c.from-to.ensures) (c.requires.0.rises _ c.if-pack-rule.false)

pub returns-then-to-from : goal.returns-then-to-from
unfolding PlaceAnswer
returns-then-to-from c =
    λ p symbols arities s. let past = rw (c.from-from.ensures, c.from-to.ensures) at c.if-to-from.true in
    rw (stored_place p symbols _ arities _ _ _ s _ _, lt-ltb _ _ c.if-pack-rule.false, le-ltb _ _ past)

pub overflow_add-from : goal.overflow_add-from
overflow_add-from c = omega (arith, c.requires.0.within _ c.if-pack-rule.false)

pub bounds-pack-from : goal.bounds-pack-from
bounds-pack-from c = omega (arith, c.requires.0.within _ c.if-pack-rule.false)

pub overflow_add-result : goal.overflow_add-result
overflow_add-result c = omega (arith, c.requires.0.within _ c.if-pack-rule.false)

pub returns-then-is_defined : goal.returns-then-is_defined
unfolding PlaceAnswer
returns-then-is_defined c =
    λ p symbols arities s. let before = rw (c.from-from.ensures, c.from-to.ensures) at c.if-to-from.false in
    let defined = rw c.from-from.ensures at c.is_defined.ensures in
    rw (
      c.from-from.ensures,
      stored_place p symbols _ arities _ _ _ s _ _,
      lt-ltb _ _ c.if-pack-rule.false,
      lt-ltb _ _ before,
      ← defined,
      c.if-is_defined.true,
    )

pub returns : goal.returns
unfolding PlaceAnswer
returns c =
    λ p symbols arities s. let before = rw (c.from-from.ensures, c.from-to.ensures) at c.if-to-from.false in
    let defined = rw c.from-from.ensures at c.is_defined.ensures in
    rw (stored_place p symbols _ arities _ _ _ s _ _, lt-ltb _ _ c.if-pack-rule.false, lt-ltb _ _ before, ← defined, c.if-is_defined.false)
