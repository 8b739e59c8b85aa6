-- The pack's refusals: their numbers are 1 to 6; one met at a record stands whatever follows that record; and a pack that
-- is not refused obeys the table of what may follow what.
use mathlib.Core.Path.{◌≡◌, refl, sym, ap, ◌∙◌}
use mathlib.Core.Bool.{true, false}
use mathlib.Core.List.{List, [], ◌∷◌, ◌++◌}
use mathlib.Core.Option.{Option, none, some}
use Prim.Native.Nat.{ℕ, ◌%◌, ◌≤◌, ◌<◌}
use native.Mathlib.Omega.{arith}
use lib.ListN.{length}
use borrow.Author.Tests.{lt-ltb}
use Rattle.rewriting.specs.Terms.{Tree, System}
use Rattle.rewriting.proofs.Basics.{and_both}
use Rattle.records.specs.declared.Record.{Record}
use Rattle.records.specs.Outcomes.{Outcome, refused, passed}
use Rattle.records.specs.Records.{all_records, length_bad}
use Rattle.records.specs.Order.{index, pack_edge, obeys}
use Rattle.records.proofs.Outcomes.{test_held, test_failed, after_passed, RefusedWithin, test_within, after_within, refusal_within, wider, none_refused, within}
use Rattle.records.proofs.Bytes.{records_append}
use Rattle.records.proofs.Table.{may_follow_stands}
use Rattle.terms.specs.Sides.{Node, variable, symbol}
use Rattle.packs.specs.PackReading.{PackReading, between_rules, most_pack_bytes, symbol_read, rule_read, rule_of, rule_ended, node_read, pack_step, pack_end, pack_from, pack_steps, read_pack, pack_refusal, system_of, pack_in}
use Rattle.packs.specs.Encoding.{GoodPack}
use Rattle.packs.proofs.OneRecord.{node_row, node_kind, Reads, reads_symbol, reads_rule, reads_node, reads_last, passes_reads}
use Rattle.packs.proofs.ReadBack.{from_steps, steps_append}
use Rattle.packs.proofs.OnlyEncodings.{pack_good}

-- THE NUMBERS

abbrev InTable : {A : Type 0} → Outcome A → Type 0
InTable o = RefusedWithin 2 6 o

rule_of_range : (l r : Option Tree) → InTable (rule_of l r)
unfolding rule_of
rule_of_range none r = search within
rule_of_range (some l) none = search within
rule_of_range (some l) (some r) = search within

module _ (r : Record) (x : PackReading) where
  symbol_range : InTable (symbol_read r x)
  unfolding symbol_read
  symbol_range = search within

  rule_range : InTable (rule_read r x)
  unfolding rule_read
  rule_range = search within

  node_range : InTable (node_read r x)
  unfolding node_read rule_ended
  node_range = search (within, rule_of_range)

  step_range : InTable (pack_step r x)
  unfolding pack_step
  step_range = search (within, symbol_range, rule_range, node_range)

end_range : (x : PackReading) → InTable (pack_end x)
unfolding pack_end
end_range x = search within

from_range : (rs : List Record) (x : PackReading) → InTable (pack_from rs x)
unfolding pack_from
from_range [] x = end_range x
from_range (r ∷ rs) x = after_within (pack_step r x) _ (step_range r x) (λ y. from_range rs y)

pub read_range : (bs : List ℕ) → RefusedWithin 1 6 (read_pack bs)
unfolding read_pack
read_range bs = test_within (length_bad most_pack_bytes bs) (refused 1) _ (search within) (wider (from_range (all_records bs) _))

-- 1 is given for the length
pub pack_too_long : (bs : List ℕ) → 33792 < length bs → read_pack bs ≡ refused 1
unfolding read_pack length_bad
pack_too_long bs h = rw (lt-ltb 33792 (length bs) h)

-- and for nothing else
pub length_first : (bs : List ℕ) → length_bad most_pack_bytes bs ≡ false → RefusedWithin 2 6 (read_pack bs)
unfolding read_pack
length_first bs h = rw h (from_range (all_records bs) _)

pub pack_refusal_range : (bs : List ℕ) → pack_refusal bs ≤ 6
unfolding pack_refusal
pack_refusal_range bs = refusal_within (read_range bs)

-- so a pack passes 1 to 6 exactly if it is read
pub pack_passes : (bs : List ℕ) → pack_refusal bs ≡ 0 → read_pack bs ≡ passed (pack_in bs)
unfolding pack_refusal pack_in system_of
pack_passes bs e = let r = none_refused (read_range bs) e in r.1 ∙ ap passed (sym (ap system_of r.1))

-- and its system is good
pub passes_good : (bs : List ℕ) → pack_refusal bs ≡ 0 → GoodPack (pack_in bs)
passes_good bs e = pack_good bs (pack_in bs) (pack_passes bs e)

-- A REFUSAL STANDS whatever follows the record at which it was met

pub refusal_stands : (rs more : List Record) (x : PackReading) (n : ℕ) → pack_steps rs x ≡ refused n → pack_from (rs ++ more) x ≡ refused n
refusal_stands rs more x n e = from_steps (rs ++ more) x ∙ rw (steps_append rs more x, e)

-- in bytes: a file of whole records that is refused within itself is refused so with whatever after it, the length allowing
pub read_stands : (bs more : List ℕ) (n : ℕ) → length bs % 8 ≡ 0 → length_bad most_pack_bytes (bs ++ more) ≡ false
    → pack_steps (all_records bs) (between_rules pack_edge [] []) ≡ refused n → read_pack (bs ++ more) ≡ refused n
unfolding read_pack
read_stands bs more n whole short e =
    rw (short, records_append bs more whole) (refusal_stands (all_records bs) (all_records more) (between_rules pack_edge [] []) n e)

-- A PACK THAT PASSES OBEYS THE TABLE

node_row_small : (n : Node) → node_row n < 5
node_row_small (variable v) = omega arith
node_row_small (symbol f) = omega arith

pub reads_row : {x y : PackReading} {r : Record} → Reads x r y → (y.last ≡ index r.kind) × (y.last < 5)
unfolding index
reads_row (reads_symbol n h few small) = (refl, omega arith)
reads_row (reads_rule b c h few left right) = (refl, omega arith)
reads_row (reads_node n h fits due) = (sym (node_kind n), node_row_small n)
reads_row (reads_last n u h fits due m) = (sym (node_kind n), node_row_small n)

pub records_obey : (rs : List Record) (x : PackReading) (p : System) → x.last < 5 → pack_from rs x ≡ passed p → obeys x.last pack_edge rs ≡ true
unfolding pack_from pack_end pack_step obeys
records_obey [] x p row e = may_follow_stands x.last pack_edge x.due false (test_held _ _ _ e).0
records_obey (r ∷ rs) x p row e =
    let step = after_passed (pack_step r x) _ e in
    let y : PackReading = step.0 in
    let next = reads_row (passes_reads x y r row step.1) in
    and_both
    (may_follow_stands x.last (index r.kind) x.due false (test_held _ _ _ step.1).0)
    (rw next.0 at (records_obey rs y p next.1 step.2))

pub pack_obeys : (bs : List ℕ) (p : System) → read_pack bs ≡ passed p → obeys pack_edge pack_edge (all_records bs) ≡ true
unfolding read_pack
pack_obeys bs p e = records_obey (all_records bs) (between_rules pack_edge [] []) p (omega arith) (test_failed (length_bad most_pack_bytes bs) _ 1 e).1
