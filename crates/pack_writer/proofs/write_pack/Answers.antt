-- `pack_writer::write_pack` meets its contract. The loop's invariant: after the symbols' records those of the first i rules are written.
use mathlib.Core.Path.{◌≡◌, refl, ◌∙◌}
use mathlib.Core.List.{List}
use Prim.Native.Nat.{ℕ, ◌+◌, ◌*◌, ◌-◌, ◌≤◌, ◌<◌}
use native.Mathlib.Omega.{arith}
use lib.ListN.{length, get_or, take}
use Rattle.packs.specs.Encoding.{symbol_records}
use Rattle.pack_writer.specs.Writing.{kept_rule, kept_rules, written, WritingAsked, RuleAsked, RecordsWritten}
use Rattle.pack_writer.proofs.InBuffer.{written_none, written_then, written_pack}
use Rattle.pack_writer.proofs.FromArrays.{kept_rules_more, kept_rules_long, starts_below, symbols_end, pack_kept, pack_long}
use Rattle.pack_writer.proofs.write_pack.Goals as goal

-- `o` is the buffer before, `s` the one with the symbols, which end at byte `at`
module _ (o s : List ℕ) (symbols rules : ℕ) (ar ss ns : List ℕ) (q : WritingAsked o symbols rules ar ss ns) (at : ℕ) (same : length s ≡ length o)
    (ws : RecordsWritten 0 (symbol_records 0 (take symbols ar)) at o s) where
  module _ (i next : ℕ) (z : List ℕ) (h : i < rules) (w : RecordsWritten at (kept_rules ss ns i) next s z) where
    -- rule i has room
    rule_fits : next + 8 * (1 + (get_or ss (2 * i + 2) 0 - get_or ss (2 * i) 0)) ≤ length o
    rule_fits =
        let p = q.pack.system in
        let k = q.pack.writable in
        let d : 2 * (i + 1) ≡ 2 * i + 2 = omega arith in
        let last : get_or ss (2 * i + 2) 0 ≤ get_or ss (2 * rules) 0 = rw d at (starts_below p symbols rules ar ss ns k (i + 1) (omega arith)) in
        omega (
          arith,
          q.fits,
          pack_long p symbols rules ar ss ns k,
          symbols_end p symbols rules ar ss ns k at o s ws,
          w.ends,
          kept_rules_long p symbols rules ar ss ns k i (omega arith),
          (k.rules_at i h).left_long,
          (k.rules_at i h).right_long,
        )

    rule_asked : length z ≡ length s → RuleAsked z next i ns (get_or ss (2 * i) 0) (get_or ss (2 * i + 1) 0) (get_or ss (2 * i + 2) 0)
    rule_asked l =
        let k = q.pack.writable.rules_at i h in
        record {
          number_small = omega (arith, q.pack.rules_few);
          left_ordered = omega (arith, k.left_long);
          right_ordered = omega (arith, k.right_long);
          within = omega (arith, k.right_long, k.right_kept.within);
          nodes_long = q.pack.nodes_long;
          fits = omega (arith, rule_fits);
        }

    rule_written : (r : ℕ) (y : List ℕ) → RecordsWritten next (kept_rule ss ns i) r z y → RecordsWritten at (kept_rules ss ns (i + 1)) r s y
    rule_written r y v = rw kept_rules_more (written_then at next (kept_rules ss ns i) s z w (omega (arith, rule_fits)) r (kept_rule ss ns i) y v)

  all_written : (next : ℕ) (z : List ℕ) → RecordsWritten at (kept_rules ss ns rules) next s z → z ≡ written q.pack.system o
  all_written next z w =
      let p = q.pack.system in
      let k = q.pack.writable in
      let e = symbols_end p symbols rules ar ss ns k at o s ws in
      written_pack p next o z
      (rw (pack_kept p symbols rules ar ss ns k) at (written_then 0 at _ o s ws (omega (arith, q.fits, pack_long p symbols rules ar ss ns k)) next _ z w))

pub write_symbols-at-requires : goal.write_symbols-at-requires
write_symbols-at-requires c =
    let q = c.requires in
    (q.pack.symbols_few, omega (arith, q.fits, pack_long q.pack.system _ _ _ _ _ q.pack.writable))

pub loop-i-init : goal.loop-i-init
unfolding kept_rules
loop-i-init c = (omega arith, refl, written_none _ _)

pub write_rule-at-requires : goal.write_rule-at-requires
write_rule-at-requires c =
    let l = c.loop-i in
    rw (c.from.ensures, c.from-in-loop-i.ensures, c.from-in-loop-i-2.ensures)
    (rule_asked _ _ _ _ _ _ _ c.requires _ c.write_symbols-at.auto.out c.write_symbols-at.ensures l.i l.at l.out c.loop-i-test.true l.invariant.2 l.invariant.1)

pub loop-i-preserved : goal.loop-i-preserved
loop-i-preserved c =
    let l = c.loop-i in (
      omega arith,
      c.write_rule-at.auto.out ∙ l.invariant.1,
      rule_written _ _ _ _ _ _ _ c.requires _ c.write_symbols-at.auto.out c.write_symbols-at.ensures l.i l.at l.out c.loop-i-test.true l.invariant.2
          _ _ (rw (c.from.ensures, c.from-in-loop-i.ensures, c.from-in-loop-i-2.ensures) at c.write_rule-at.ensures),
    )

pub returns : goal.returns
returns c =
    λ q. let l = c.loop-i in
    let e : l.i ≡ c.args.pack.now.rules = omega arith in
    all_written _ _ _ _ _ _ _ q _ c.write_symbols-at.auto.out c.write_symbols-at.ensures l.at l.out (rw (← e) l.invariant.2)
