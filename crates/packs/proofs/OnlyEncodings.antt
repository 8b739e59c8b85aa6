-- A pack that passes 1 to 6 is the encoding of the system read, and that system is good: at each record, what has been
-- read so far is the records of the symbols and rules so far and of the rule begun.
use mathlib.Core.Path.{◌≡◌, refl, sym, ap, ◌∙◌, subst}
use mathlib.Core.Bool.{true, false}
use mathlib.Core.Logic.{◌↔◌}
use mathlib.Core.List.{List, [], ◌∷◌, ◌++◌, append_assoc, append-nil}
use Prim.Native.Nat.{ℕ, ◌+◌, ◌-◌, ◌%◌, ◌≤◌, ◌<◌}
use native.Mathlib.Nat.{zero-add}
use native.Mathlib.Omega.{arith}
use lib.Dec.{ltb, leb}
use lib.ListN.{length, take, drop, length-append, length-drop, take-append-drop}
use lib.Seq.{length-take-le, append_snoc}
use borrow.Author.Tests.{leb-true, eqb-true, not-false}
use Rattle.rewriting.specs.Terms.{Rule, System}
use Rattle.rewriting.proofs.Basics.{Each, each_nil, each_cons, each_append, each_left, each_right, and_left, and_right, or_right_false}
use Rattle.records.specs.declared.Record.{Record}
use Rattle.records.specs.Outcomes.{passed}
use Rattle.records.specs.Records.{a_record, all_records, all_record_bytes, length_bad, all_bytes}
use Rattle.records.specs.Order.{s_symbol, r_rule, may_follow, pack_edge}
use Rattle.records.proofs.Outcomes.{passed_same, test_held, test_failed, after_passed}
use Rattle.records.proofs.Bytes.{bytes_of_records}
use Rattle.terms.specs.Sides.{Node, flat}
use Rattle.packs.specs.PackReading.{PackReading, between_rules, most_pack_bytes, most_symbols, most_arity, most_rules, most_nodes, variable_count, side_count, pack_step, pack_end, pack_from, pack_steps, read_pack}
use Rattle.packs.specs.Encoding.{node_record, node_records, symbol_records, rule_records, pack_records, pack_bytes, GoodPack}
use Rattle.terms.proofs.Parsing.{NodeFits, side_nodes, side_term, side_small}
use Rattle.packs.proofs.OneRecord.{node_row, MakesRule, Reads, reads_symbol, reads_rule, reads_node, reads_last, passes_reads}
use Rattle.packs.proofs.Places.{Between, at_start, after_symbol, after_node, Inside, at_rule, at_node, between_row, between_symbol, between_no_node, inside_row, inside_no_symbol, inside_no_rule, inside_no_end}
use Rattle.packs.proofs.Encoding.{RuleFits, fit_good, node_records_append, symbol_records_snoc, rule_records_snoc}
use Rattle.packs.proofs.ReadBack.{from_steps, read_back}

-- what holds of the symbols and rules read so far; the rules still to come change nothing about a rule's terms
pub record Settled (ar : List ℕ) (rs : List Rule) : Type 0 where
  pub symbols : length ar ≤ most_symbols
  pub small : Each (λ n. n ≤ most_arity) ar
  pub count : length rs ≤ most_rules
  pub fit : (all : List Rule) → Each (RuleFits (record { arities = ar; rules = all })) rs

pub settled_good : (ar : List ℕ) (rs : List Rule) → Settled ar rs → GoodPack (record { arities = ar; rules = rs })
settled_good ar rs s = fit_good (record { arities = ar; rules = rs }) s.symbols s.small s.count (s.fit rs)

-- the rule begun: its record and the nodes read
pub record BegunFits (ar : List ℕ) (lefts rights due : ℕ) (ns : List Node) : Type 0 where
  pub left_count : side_count lefts ≡ true
  pub right_count : side_count rights ≡ true
  pub still : 1 ≤ due
  pub counted : length ns + due ≡ lefts + rights
  pub fit : Each (NodeFits ar variable_count) ns

-- the records of the symbols and rules so far, and with them those of the rule begun
abbrev pub settled_records : List ℕ → List Rule → List Record
settled_records ar rs = symbol_records 0 ar ++ rule_records 0 rs

abbrev pub begun_records : List ℕ → List Rule → (lefts rights : ℕ) → List Node → List Record
begun_records ar rs lefts rights ns = settled_records ar rs ++ (a_record r_rule (length rs) lefts rights ∷ node_records ns)

-- THE INVARIANT: the records read so far, and where the reading stands
pub data Reached : List Record → PackReading → Type 0 where
  between : (last : ℕ) (ar : List ℕ) (rs : List Rule) → Between last ar rs → Settled ar rs
      → Reached (settled_records ar rs) (between_rules last ar rs)
  inside : (last : ℕ) (ar : List ℕ) (rs : List Rule) (lefts rights due : ℕ) (ns : List Node) → Inside last → Settled ar rs → length rs < most_rules
      → BegunFits ar lefts rights due ns
      → Reached (begun_records ar rs lefts rights ns)
      (record { last = last; arities = ar; rules = rs; lefts = lefts; due = due; nodes = ns })

-- ONE MORE RECORD

reached_row : {done : List Record} {x : PackReading} → Reached done x → x.last < 5
reached_row (between last ar rs at s) = between_row at
reached_row (inside last ar rs lefts rights due ns i s few b) = inside_row i

one_symbol : (last : ℕ) (ar : List ℕ) (rs : List Rule) (n : ℕ) → Between last ar rs → Settled ar rs → may_follow last 1 0 false ≡ true → length ar < most_symbols → n ≤ most_arity
    → Reached (settled_records ar rs ++ (a_record s_symbol (length ar) n 0 ∷ [])) (between_rules 1 (ar ++ (n ∷ [])) rs)
unfolding rule_records
one_symbol last ar rs n at s h few small =
    let empty : rs ≡ [] = between_symbol at h in
    let same : symbol_records 0 (ar ++ (n ∷ [])) ++ [] ≡ (symbol_records 0 ar ++ []) ++ (a_record s_symbol (length ar) n 0 ∷ []) =
    simp (append-nil, symbol_records_snoc, zero-add) in
    rw empty
    (subst (λ (l : List Record). Reached l (between_rules 1 (ar ++ (n ∷ [])) [])) same
    (between 1 (ar ++ (n ∷ [])) [] (after_symbol _)
    (record {
      symbols = simp length-append (omega arith);
      small = each_append s.small (each_cons n [] small each_nil);
      count = omega arith;
      fit = λ all. each_nil;
    })))

pub side_count_positive : (n : ℕ) → side_count n ≡ true → 1 ≤ n
unfolding side_count
side_count_positive n h = leb-true 1 n (and_left _ _ h)

pub side_count_small : (n : ℕ) → side_count n ≡ true → n ≤ most_nodes
unfolding side_count
side_count_small n h = leb-true n most_nodes (and_right (leb 1 n) _ h)

one_rule : (ar : List ℕ) (rs : List Rule) (b c : ℕ) → Settled ar rs → length rs < most_rules → side_count b ≡ true → side_count c ≡ true
    → Reached (settled_records ar rs ++ (a_record r_rule (length rs) b c ∷ []))
    (record { last = 2; arities = ar; rules = rs; lefts = b; due = b + c; nodes = [] })
unfolding node_records
one_rule ar rs b c s few left right =
    let l = side_count_positive b left in
    inside 2 ar rs b c (b + c) [] at_rule s few
    (record { left_count = left; right_count = right; still = omega arith; counted = zero-add (b + c); fit = each_nil })

one_node : (ar : List ℕ) (rs : List Rule) (lefts rights due : ℕ) (ns : List Node) (n : Node) → Settled ar rs → length rs < most_rules
    → BegunFits ar lefts rights due ns → NodeFits ar variable_count n → (due ≡ 1 → ⊥)
    → Reached (begun_records ar rs lefts rights ns ++ (node_record n ∷ []))
    (record { last = node_row n; arities = ar; rules = rs; lefts = lefts; due = due - 1; nodes = ns ++ (n ∷ []) })
unfolding node_records
one_node ar rs lefts rights due ns n s few b fits more =
    let still = b.still in
    let counted = b.counted in
    rw (append_assoc (settled_records ar rs), ← (node_records_append ns (n ∷ [])))
    (inside (node_row n) ar rs lefts rights (due - 1) (ns ++ (n ∷ [])) (at_node n) s few
    (record {
      left_count = b.left_count;
      right_count = b.right_count;
      still = omega arith;
      counted = simp length-append (omega arith);
      fit = each_append b.fit (each_cons n [] fits each_nil);
    }))

-- the nodes of a rule that is ended are those of its sides, and the rule is one that a pack can hold
module _ (ar : List ℕ) (lefts rights : ℕ) (ns : List Node) (u : Rule) (counted : length ns ≡ lefts + rights) (m : MakesRule ar lefts ns u) where
  left_is : take lefts ns ≡ flat u.left
  left_is = side_nodes ar (take lefts ns) u.left m.left_side

  right_is : drop lefts ns ≡ flat u.right
  right_is = side_nodes ar (drop lefts ns) u.right m.right_side

  sides_are : ns ≡ flat u.left ++ flat u.right
  sides_are = rw (← left_is, ← right_is) (sym (take-append-drop lefts ns))

  left_length : length (flat u.left) ≡ lefts
  left_length = rw (← left_is) (length-take-le lefts ns (omega arith))

  right_length : length (flat u.right) ≡ rights
  right_length = rw (← right_is) (length-drop lefts ns ∙ omega arith)

  rule_fits : Each (NodeFits ar variable_count) ns → lefts ≤ most_nodes → rights ≤ most_nodes → (all : List Rule) → RuleFits (record { arities = ar; rules = all }) u
  rule_fits fits l r all =
      let p : System = record { arities = ar; rules = all } in
      let both : Each (NodeFits ar variable_count) (take lefts ns ++ drop lefts ns) = rw take-append-drop fits in
      let left_fits = each_left (take lefts ns) (drop lefts ns) both in
      let right_fits = each_right (take lefts ns) (drop lefts ns) both in
      record {
        left_nodes = rw left_length l;
        right_nodes = rw right_length r;
        good =
            record {
              left_applied = m.left_applied;
              left_term = side_term p variable_count (take lefts ns) u.left m.left_side left_fits;
              right_term = side_term p variable_count (drop lefts ns) u.right m.right_side right_fits;
              left_small = side_small p variable_count (take lefts ns) u.left m.left_side left_fits;
              right_small = side_small p variable_count (drop lefts ns) u.right m.right_side right_fits;
              no_new = m.no_new;
            };
      }

one_last : (ar : List ℕ) (rs : List Rule) (lefts rights : ℕ) (ns : List Node) (n : Node) (u : Rule) → Settled ar rs → length rs < most_rules
    → BegunFits ar lefts rights 1 ns → NodeFits ar variable_count n → MakesRule ar lefts (ns ++ (n ∷ [])) u
    → Reached (begun_records ar rs lefts rights ns ++ (node_record n ∷ []))
    (between_rules (node_row n) ar (rs ++ (u ∷ [])))
unfolding node_records
one_last ar rs lefts rights ns n u s few b fits m =
    let counted = length-append ns (n ∷ []) ∙ b.counted in
    let l = left_length ar lefts rights (ns ++ (n ∷ [])) u counted m in
    let r = right_length ar lefts rights (ns ++ (n ∷ [])) u counted m in
    let same : symbol_records 0 ar ++ rule_records 0 (rs ++ (u ∷ []))
    ≡ begun_records ar rs lefts rights ns ++ (node_record n ∷ []) =
    rw (rule_records_snoc, zero-add, l, r, ← (sides_are ar lefts rights (ns ++ (n ∷ [])) u counted m), node_records_append) (simp append_assoc) in
    let fit = each_append b.fit (each_cons n [] fits each_nil) in
    let this = rule_fits ar lefts rights (ns ++ (n ∷ [])) u counted m fit (side_count_small lefts b.left_count) (side_count_small rights b.right_count) in
    subst (λ (l : List Record). Reached l (between_rules (node_row n) ar (rs ++ (u ∷ [])))) same
    (between (node_row n) ar (rs ++ (u ∷ [])) (after_node n ar _)
    (record {
      symbols = s.symbols;
      small = s.small;
      count = simp length-append (omega arith);
      fit = λ all. each_append (s.fit all) (each_cons u [] (this all) each_nil);
    }))

-- each step that passes keeps the invariant
one_more : {done : List Record} {x y : PackReading} {r : Record} → Reached done x → Reads x r y → Reached (done ++ (r ∷ [])) y
one_more (between last ar rs at s) (reads_symbol n h few small) = one_symbol last ar rs n at s h few small
one_more (between last ar rs at s) (reads_rule b c h few left right) = one_rule ar rs b c s few left right
one_more (between last ar rs at s) (reads_node n h fits due) = absurd (between_no_node at n h)
one_more (between last ar rs at s) (reads_last n u h fits due m) = absurd (between_no_node at n h)
one_more (inside last ar rs lefts rights due ns i s few b) (reads_symbol n h fewer small) = absurd (inside_no_symbol i due h)
one_more (inside last ar rs lefts rights due ns i s few b) (reads_rule c d h fewer left right) = absurd (inside_no_rule i due b.still h)
one_more (inside last ar rs lefts rights due ns i s few b) (reads_node n h fits more) = one_node ar rs lefts rights due ns n s few b fits more
one_more (inside last ar rs lefts rights due ns i s few b) (reads_last n u h fits one m) =
    one_last ar rs lefts rights ns n u s few (subst (λ (d : ℕ). BegunFits ar lefts rights d ns) one b) fits m

steps_reached : (rs done : List Record) (x y : PackReading) → Reached done x → pack_steps rs x ≡ passed y → Reached (done ++ rs) y
unfolding pack_steps
steps_reached [] done x y so e = rw (append-nil, ← (passed_same e)) so
steps_reached (r ∷ rs) done x y so e =
    let step = after_passed (pack_step r x) _ e in
    let z : PackReading = step.0 in
    rw append_snoc at (steps_reached rs (done ++ (r ∷ [])) z y (one_more so (passes_reads x z r (reached_row so) step.1)) step.2)

start : Reached [] (between_rules pack_edge [] [])
unfolding symbol_records rule_records
start = between 0 [] [] at_start (record { symbols = omega arith; small = each_nil; count = omega arith; fit = λ all. each_nil })

-- so every reading of records from the start keeps it
pub reached : (rs : List Record) (y : PackReading) → pack_steps rs (between_rules pack_edge [] []) ≡ passed y → Reached rs y
reached rs y e = steps_reached rs [] (between_rules pack_edge [] []) y start e

-- TO THE END

at_end : {done : List Record} {x : PackReading} → Reached done x → (p : System) → pack_end x ≡ passed p → (done ≡ pack_records p) × GoodPack p
unfolding pack_end pack_records
at_end (between last ar rs at s) p e =
    let t = test_held (may_follow last pack_edge 0 false) _ _ e in
    subst (λ (q : System). (settled_records ar rs ≡ pack_records q) × GoodPack q) (passed_same t.1) (refl, settled_good ar rs s)
at_end (inside last ar rs lefts rights due ns i s few b) p e =
    let t = test_held (may_follow last pack_edge due false) _ _ e in
    absurd (inside_no_end i due b.still t.0)

-- whatever the records: if they pass, they are those of the system read, and it is good
pub records_only : (rs : List Record) (p : System) → pack_from rs (between_rules pack_edge [] []) ≡ passed p → (rs ≡ pack_records p) × GoodPack p
records_only rs p e =
    let all = after_passed (pack_steps rs _) pack_end (sym (from_steps rs _) ∙ e) in
    at_end (reached rs all.0 all.1) p all.2

module _ (bs : List ℕ) (p : System) (e : read_pack bs ≡ passed p) where
  read_parts : (length_bad most_pack_bytes bs ≡ false) × (pack_from (all_records bs) (between_rules pack_edge [] []) ≡ passed p)
  unfolding read_pack
  read_parts = test_failed (length_bad most_pack_bytes bs) _ 1 e

  -- what was read is good, whatever the numbers in the file
  pub pack_good : GoodPack p
  pack_good = (records_only (all_records bs) p read_parts.1).1

  -- the records of the file, one for one
  pub pack_read : all_records bs ≡ pack_records p
  pack_read = (records_only (all_records bs) p read_parts.1).0

  length_whole : length bs % 8 ≡ 0
  unfolding length_bad
  length_whole = eqb-true _ _ (not-false _ (or_right_false (ltb most_pack_bytes (length bs)) _ read_parts.0))

-- a file of bytes that passes is the encoding of the system read
pub only_encodings : (bs : List ℕ) (p : System) → all_bytes bs ≡ true → read_pack bs ≡ passed p → (bs ≡ pack_bytes p) × GoodPack p
unfolding pack_bytes
only_encodings bs p h e = (sym (bytes_of_records bs h (length_whole bs p e)) ∙ ap all_record_bytes (pack_read bs p e), pack_good bs p e)

-- the packs that are read are exactly the encodings of good systems
pub packs_exactly : (bs : List ℕ) (p : System) → all_bytes bs ≡ true → (read_pack bs ≡ passed p) ↔ ((bs ≡ pack_bytes p) × GoodPack p)
packs_exactly bs p h = (only_encodings bs p h, λ k. rw k.0 (read_back p k.1))
