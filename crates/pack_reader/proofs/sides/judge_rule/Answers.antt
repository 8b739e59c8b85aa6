-- `pack_reader::sides::judge_rule` meets its contract, test by test.
use mathlib.Core.Path.{◌≡◌, sym, ◌∙◌}
use mathlib.Core.Bool.{Bool, true, false, cond}
use mathlib.Core.List.{List}
use Prim.Native.Nat.{ℕ, ◌≤◌, ◌<◌}
use native.Mathlib.Omega.{arith}
use borrow.Author.Tests.{lt-ltb, le-ltb}
use lib.ListN.{length, get_or}
use Rattle.records.specs.Outcomes.{refused, passed}
use Rattle.terms.specs.Kept.{part, balanced}
use Rattle.terms.proofs.Parts.{part_more}
use Rattle.pack_reader.specs.Stored.{rule_judged, all_seen, SeenIn}
use Rattle.pack_reader.proofs.Seen.{seen_variables}
use Rattle.pack_reader.proofs.sides.judge_rule.Goals as goal

-- the judgement of two sides, by each test
module _ (ar ls rs : List ℕ) where
  left_broken : balanced ar 1 ls ≡ false → refused 4 ≡ rule_judged ar ls rs
  unfolding rule_judged
  left_broken e = rw e

  right_broken : balanced ar 1 ls ≡ true → balanced ar 1 rs ≡ false → refused 4 ≡ rule_judged ar ls rs
  unfolding rule_judged
  right_broken l e = rw (l, e)

module _ (ar ns : List ℕ) (left right end : ℕ) (l : balanced ar 1 (part ns left right) ≡ true) (r : balanced ar 1 (part ns right end) ≡ true) (h : left < right) (k : right ≤ length ns) where
  bare_left : 64 ≤ get_or ns left 0 → refused 5 ≡ rule_judged ar (part ns left right) (part ns right end)
  unfolding rule_judged
  bare_left e = rw (l, r, part_more ns left right h k, le-ltb _ _ e)

  by_variables : get_or ns left 0 < 64 → (sn : List Bool) (b : Bool) → b ≡ all_seen sn (part ns right end) → length sn ≡ 16 → SeenIn (part ns left right) sn
      → cond b (passed tt) (refused 6) ≡ rule_judged ar (part ns left right) (part ns right end)
  unfolding rule_judged
  by_variables e sn b all long seen =
      let first : get_or (part ns left right) 0 0 ≡ get_or ns left 0 = rw (part_more ns left right h k) in
      rw (l, r, first, lt-ltb _ _ e, all, seen_variables sn long (part ns left right) seen (part ns right end))

pub returns-then-not-left_side : goal.returns-then-not-left_side
returns-then-not-left_side c = left_broken _ _ _ (sym c.left_side.ensures.told ∙ c.if-not-left_side.true)

pub returns-in_default : goal.returns-in_default
returns-in_default c =
    right_broken _ _ _ (sym c.left_side.ensures.told ∙ c.if-not-left_side.false) c.in_default.ensures

pub returns-then-nodes-left-ge-FIRST_VARIABLE : goal.returns-then-nodes-left-ge-FIRST_VARIABLE
returns-then-nodes-left-ge-FIRST_VARIABLE c =
    bare_left _ _ _ _ _ (sym c.left_side.ensures.told ∙ c.if-not-left_side.false) c.in-Some.ensures.0 (omega arith) (omega arith)
    c.if-nodes-left-ge-FIRST_VARIABLE.true

pub returns-then-closed : goal.returns-then-closed
returns-then-closed c =
    let left = c.if-not-left_side.false in
    rw c.if-closed.true at
    (by_variables _ _ _ _ _ (sym c.left_side.ensures.told ∙ left) c.in-Some.ensures.0 (omega arith) (omega arith)
    c.if-nodes-left-ge-FIRST_VARIABLE.false _ _ c.in-Some.ensures.1 c.left_side.ensures.long (c.left_side.ensures.variables left))

pub returns : goal.returns
returns c =
    let left = c.if-not-left_side.false in
    rw c.if-closed.false at
    (by_variables _ _ _ _ _ (sym c.left_side.ensures.told ∙ left) c.in-Some.ensures.0 (omega arith) (omega arith)
    c.if-nodes-left-ge-FIRST_VARIABLE.false _ _ c.in-Some.ensures.1 c.left_side.ensures.long (c.left_side.ensures.variables left))
