-- `partition::reached_from` meets its contract. The loop's invariant: no arc leads back to one of the rules from `first` up to s.
use Rattle.std.proofs.Common.{◌≡◌, sym, ◌∙◌, arith}
use Rattle.pair_finder.proofs.Kept.{term_within}
use Rattle.partition.proofs.Keys.{asked_of, right_term, root_small, none_more, none_reached, is_lower, no_lower}
use Rattle.partition.proofs.reached_from.Goals.{else-keys-s-via-then-keys-s+else-reaches_to, else-keys-s-via-else-keys-s}
use Rattle.partition.proofs.reached_from.Goals as goal

pub bounds-pack-right : goal.bounds-pack-right
bounds-pack-right c = omega (arith, term_within _ _ _ (right_term c.requires.0.asked))

pub overflow_mul-from : goal.overflow_mul-from
overflow_mul-from c = omega (arith, root_small c.requires.0.asked)

pub loop-s-init : goal.loop-s-init
loop-s-init c = (omega arith, c.requires.1, λ a h. h)

pub offset_bounds-keys-s : goal.offset_bounds-keys-s
offset_bounds-keys-s c = omega (arith, c.requires.0.asked.kept.arrays.laid.few)

pub bounds-keys-s : goal.bounds-keys-s
bounds-keys-s c = let a = c.requires.0.asked in omega (arith, a.kept.arrays.laid.few, a.keyed.keys_are.long)

pub reaches_to-requires : goal.reaches_to-requires
reaches_to-requires c =
    let a = c.requires.0 in
    record { asked = asked_of a.asked c.loop-s.s c.loop-s-test.true; ends = a.ends }

pub returns-then-reaches_to : goal.returns-then-reaches_to
returns-then-reaches_to c =
    λ a.
    let l = c.loop-s in
    let h = c.loop-s-test.true in
    record {
      within = h;
      later = l.invariant.0;
      none_between = l.invariant.2 a;
      lower = is_lower a.asked c.args.own l.s h (omega (arith, c.type_inv.keys l.s)) c.ranges.own.fits (rw (c.from-from.ensures, c.from.ensures) at c.if-keys-s.true);
      reached = sym (c.reaches_to.ensures (asked_of a.asked l.s h)) ∙ c.if-reaches_to.true;
    }

-- either no arc leads to the rule, or it has another root or no lower component
pub loop-s-preserved : goal.loop-s-preserved
loop-s-preserved c =
    let l = c.loop-s in
    let own = c.args.own in
    let h = c.loop-s-test.true in (
      omega (arith, l.invariant.0),
      omega arith,
      λ a none.
          none_more a.asked own l.s (l.invariant.2 a none)
          (elim c.else-keys-s.branch [
            | else-keys-s-via-then-keys-s+else-reaches_to w ↦ none_reached a.asked own l.s h (sym (w.reaches_to.ensures (asked_of a.asked l.s h)) ∙ w.if-reaches_to.false)
            | else-keys-s-via-else-keys-s w ↦ no_lower a.asked own l.s h (omega (arith, c.type_inv.keys l.s)) (rw (c.from-from.ensures, c.from.ensures) at w.if-keys-s.false)
          ]),
    )

pub returns : goal.returns
returns c =
    λ a.
    let l = c.loop-s in
    let e : l.s ≡ c.args.pack.now.rules = omega (arith, l.invariant.1) in
    rw e at (l.invariant.2 a)
