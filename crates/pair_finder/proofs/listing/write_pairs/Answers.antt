-- `pair_finder::listing::write_pairs` meets its contract. The loop's invariant: the records of the first i rules' pairs are written.
use mathlib.Core.Path.{◌≡◌, refl, ◌∙◌}
use mathlib.Core.List.{List}
use Prim.Native.Nat.{ℕ, ◌+◌, ◌*◌, ◌≤◌, ◌<◌}
use native.Mathlib.Nat.{zero-add}
use native.Mathlib.Omega.{arith}
use lib.ListN.{length}
use Rattle.pair_finder.specs.Walking.{rule_pairs, first_pairs, Written}
use Rattle.pair_finder.proofs.DefinedPlaces.{rule_pairs_long, first_more, first_more_long, first_fewer}
use Rattle.pair_finder.proofs.Written.{written_none, written_then}
use Rattle.pair_finder.proofs.listing.write_pairs.Goals as goal

module _ (ss ns ms o z : List ℕ) (rules i at : ℕ) (h : i < rules) (room : 8 * length (first_pairs ss ns ms rules) ≤ length o)
    (w : Written 0 (first_pairs ss ns ms i) at o z) where
  -- rule i's pairs have room
  rule_fits : at + 8 * length (rule_pairs ss ns ms i) ≤ length o
  rule_fits = omega (arith, w.ends, first_more_long ss ns ms i, first_fewer ss ns ms (i + 1) rules (omega arith))

  rule_written : (r : ℕ) (y : List ℕ) → Written at (rule_pairs ss ns ms i) r z y → Written 0 (first_pairs ss ns ms (i + 1)) r o y
  rule_written r y v = rw first_more (written_then 0 at (first_pairs ss ns ms i) o z w (omega (arith, rule_fits)) r (rule_pairs ss ns ms i) y v)

pub loop-i-init : goal.loop-i-init
unfolding first_pairs
loop-i-init c = (omega arith, refl, written_none 0 _)

pub write_in-at-requires : goal.write_in-at-requires
write_in-at-requires c =
    let l = c.loop-i in
    let laid = c.requires.0 in rw (c.from-from.ensures, c.from-to.ensures) (
      omega arith,
      laid.rises l.i c.loop-i-test.true,
      laid.short l.i c.loop-i-test.true,
      laid.within l.i c.loop-i-test.true,
      c.requires.1,
      omega (
        arith,
        rule_fits _ _ _ _ l.list _ l.i l.at c.loop-i-test.true c.requires.2 l.invariant.2,
        rule_pairs_long c.args.pack.now.starts.now c.args.pack.now.nodes.now c.args.pack.now.defined.now l.i,
        l.invariant.1,
      ),
    )

pub loop-i-preserved : goal.loop-i-preserved
unfolding rule_pairs
loop-i-preserved c =
    let l = c.loop-i in (
      omega arith,
      c.write_in-at.auto.list ∙ l.invariant.1,
      rule_written _ _ _ _ l.list _ l.i l.at c.loop-i-test.true c.requires.2 l.invariant.2 _ _ (rw (c.from-from.ensures, c.from-to.ensures) at c.write_in-at.ensures),
    )

pub returns : goal.returns
returns c =
    let l = c.loop-i in
    let e : l.i ≡ c.args.pack.now.rules = omega arith in
    rw (← e) (rw zero-add at l.invariant.2.list_is)
