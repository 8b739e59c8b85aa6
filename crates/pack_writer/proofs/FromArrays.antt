-- The records made from the arrays are the pack's: a node's, a rule's, those of the first rules, and how many they are.
use mathlib.Core.Path.{◌≡◌, refl, sym, ap, ◌∙◌}
use mathlib.Core.Bool.{true}
use mathlib.Core.List.{List, [], ◌∷◌, ◌++◌, map, map-append}
use Prim.Native.Nat.{ℕ, zero, suc, ◌+◌, ◌*◌, ◌-◌, ◌≤◌, ◌<◌}
use native.Mathlib.Nat.{add-zero, zero-add}
use native.Mathlib.Numerals.{add-one}
use native.Mathlib.Omega.{arith}
use lib.Dec.{ltb}
use lib.ListN.{length, get_or, take, drop, length-append, length-drop, length-map}
use lib.Seq.{take-add, take-suc, take-length, drop-drop, get_or-drop, length-take-le}
use borrow.Author.Tests.{le-ltb}
use Rattle.rewriting.specs.Terms.{Rule, no_rule, System, rule}
use Rattle.rewriting.proofs.Basics.{and_left, and_right}
use Rattle.records.specs.Records.{a_record}
use Rattle.records.specs.Order.{s_symbol, r_rule}
use Rattle.records.proofs.Bytes.{length_of_bytes}
use Rattle.terms.specs.Sides.{Node, variable, symbol, flat}
use Rattle.terms.specs.Kept.{code, codes, symbols_below, Kept, part}
use Rattle.terms.proofs.Codes.{below_append}
use Rattle.packs.specs.Encoding.{node_record, node_records, symbol_records, rule_records, pack_records, pack_bytes}
use Rattle.packs.proofs.Encoding.{length_symbols, symbol_records_snoc, rule_records_snoc}
use Rattle.pack_reader.specs.Stored.{RuleAt}
use Rattle.pack_writer.specs.Writing.{Writable, byte_record, rule_between, kept_rule, kept_rules, RecordsWritten}

-- NODES

-- a byte below the first variable's is a symbol
nodes_records : (ns : List Node) → symbols_below ns ≡ true → map byte_record (codes ns) ≡ node_records ns
unfolding codes code symbols_below byte_record node_records node_record
nodes_records [] h = refl
nodes_records (variable v ∷ ns) h =
    let e : 64 + v - 64 ≡ v = omega arith in
    rw (le-ltb (64 + v) 64 (omega arith), e, nodes_records ns h)
nodes_records (symbol f ∷ ns) h =
    let small : ltb f 64 ≡ true = and_left (ltb f 64) (symbols_below ns) h in
    rw (small, nodes_records ns (and_right (ltb f 64) (symbols_below ns) h))

-- a part of the nodes, one node at a time from its end
pub part_last : (ns : List ℕ) (a i : ℕ) → a ≤ i → i < length ns → part ns a (i + 1) ≡ part ns a i ++ (get_or ns i 0 ∷ [])
unfolding part
part_last ns a i h k =
    let e : i + 1 - a ≡ suc (i - a) = omega arith in
    let d : a + (i - a) ≡ i = omega arith in
    rw (e, take-suc (drop a ns) (i - a) 0 (simp length-drop (omega arith)), get_or-drop a ns (i - a) 0, d)

pub part_long : (ns : List ℕ) (a e : ℕ) → e ≤ length ns → length (part ns a e) ≡ e - a
unfolding part
part_long ns a e h = length-take-le (e - a) (drop a ns) (simp length-drop (omega arith))

-- A RULE

-- both of its sides, one after the other
sides_kept : (z : List ℕ) (a b e : ℕ) (ls rs : List Node) → Kept z a ls → Kept z b rs → b ≡ a + length ls → e ≡ b + length rs → part z a e ≡ codes (ls ++ rs)
unfolding part codes
sides_kept z a b e ls rs l r middle end =
    let d : e - a ≡ length ls + length rs = omega arith in
    rw (d, take-add (length ls) (length rs) (drop a z), drop-drop (length ls) a z, ← middle, l.are, r.are)
    (sym (map-append code ls rs))

rule_long : (ns : List ℕ) (i a b e : ℕ) → e ≤ length ns → length (rule_between ns i a b e) ≡ 1 + (e - a)
unfolding rule_between
rule_long ns i a b e h = omega (arith, length-map (part ns a e) byte_record, part_long ns a e h)

rule_kept : (ss ns : List ℕ) (i : ℕ) (u : Rule) → RuleAt ss ns i u → symbols_below (flat u.left) ≡ true → symbols_below (flat u.right) ≡ true
    → kept_rule ss ns i
    ≡ a_record r_rule i (length (flat u.left)) (length (flat u.right)) ∷ node_records (flat u.left ++ flat u.right)
unfolding rule_between
rule_kept ss ns i u at left right =
    let m : get_or ss (2 * i + 1) 0 - get_or ss (2 * i) 0 ≡ length (flat u.left) = omega (arith, at.left_long) in
    let n : get_or ss (2 * i + 2) 0 - get_or ss (2 * i + 1) 0 ≡ length (flat u.right) = omega (arith, at.right_long) in
    rw (
      m,
      n,
      sides_kept ns (get_or ss (2 * i) 0) (get_or ss (2 * i + 1) 0) (get_or ss (2 * i + 2) 0) (flat u.left) (flat u.right) at.left_kept at.right_kept at.left_long at.right_long,
      nodes_records (flat u.left ++ flat u.right) (below_append (flat u.left) (flat u.right) left right),
    )

-- THE PACK

pub kept_rules_more : (ss ns : List ℕ) (i : ℕ) → kept_rules ss ns (i + 1) ≡ kept_rules ss ns i ++ kept_rule ss ns i
unfolding kept_rules
kept_rules_more ss ns i = rw (add-one i)

pub symbols_more : (ar : List ℕ) (i : ℕ) → i < length ar → symbol_records 0 (take (i + 1) ar) ≡ symbol_records 0 (take i ar) ++ (a_record s_symbol i (get_or ar i 0) 0 ∷ [])
symbols_more ar i h =
    let e : 0 + length (take i ar) ≡ i = zero-add _ ∙ length-take-le i ar (omega arith) in
    rw (add-one i, take-suc ar i 0 h, symbol_records_snoc 0 (take i ar) (get_or ar i 0), e)

module _ (p : System) (symbols rules : ℕ) (ar ss ns : List ℕ) (w : Writable p symbols rules ar ss ns) where
  kept_rules_are : (n : ℕ) → n ≤ rules → kept_rules ss ns n ≡ rule_records 0 (take n p.rules)
  unfolding kept_rules rule_records rule
  kept_rules_are zero h = refl
  kept_rules_are (suc n) h =
      let l : n < length p.rules = omega (arith, w.rules_are) in
      let e : 0 + length (take n p.rules) ≡ n = zero-add _ ∙ length-take-le n p.rules (omega arith) in
      rw (
        take-suc p.rules n no_rule l,
        rule_records_snoc 0 (take n p.rules) (rule p n),
        e,
        kept_rules_are n (omega arith),
        rule_kept ss ns n (rule p n) (w.rules_at n h) (w.lefts_below n h) (w.rights_below n h),
      )

  pub pack_kept : symbol_records 0 (take symbols ar) ++ kept_rules ss ns rules ≡ pack_records p
  unfolding pack_records
  pack_kept =
      let all : take rules p.rules ≡ p.rules = ap (λ (n : ℕ). take n p.rules) w.rules_are ∙ take-length p.rules in
      rw (w.arities_are, kept_rules_are rules (omega arith), all)

  -- a record a symbol
  symbols_counted : length (symbol_records 0 (take symbols ar)) ≡ symbols
  symbols_counted = length_symbols 0 (take symbols ar) ∙ omega (arith, ap length w.arities_are, w.symbols_are)

  pub symbols_end : (r : ℕ) (o z : List ℕ) → RecordsWritten 0 (symbol_records 0 (take symbols ar)) r o z → r ≡ 8 * symbols
  symbols_end r o z v = omega (arith, v.ends, symbols_counted)

  -- a record a rule, and one a node
  pub kept_rules_long : (n : ℕ) → n ≤ rules → length (kept_rules ss ns n) ≡ n + get_or ss (2 * n) 0
  unfolding kept_rules
  kept_rules_long zero h = omega (arith, w.begins)
  kept_rules_long (suc n) h =
      let d : 2 * suc n ≡ 2 * n + 2 = omega arith in
      let at = w.rules_at n h in
      let long = rule_long ns n (get_or ss (2 * n) 0) (get_or ss (2 * n + 1) 0) (get_or ss (2 * n + 2) 0) (omega (arith, at.right_long, at.right_kept.within)) in
      let both = length-append (kept_rules ss ns n) (kept_rule ss ns n) in
      rw d (omega (arith, kept_rules_long n (omega arith), at.left_long, at.right_long))

  -- more rules have no fewer nodes
  starts_rise : (i k : ℕ) → i + k ≤ rules → get_or ss (2 * i) 0 ≤ get_or ss (2 * (i + k)) 0
  starts_rise i zero h = rw add-zero (omega arith)
  starts_rise i (suc k) h =
      let d : 2 * (i + suc k) ≡ 2 * (i + k) + 2 = omega arith in
      let at = w.rules_at (i + k) (omega arith) in
      rw d (omega (arith, starts_rise i k (omega arith), at.left_long, at.right_long))

  pub starts_below : (i : ℕ) → i ≤ rules → get_or ss (2 * i) 0 ≤ get_or ss (2 * rules) 0
  starts_below i h = let e : i + (rules - i) ≡ rules = omega arith in rw e at (starts_rise i (rules - i) (omega arith))

  pub pack_long : length (pack_bytes p) ≡ 8 * (symbols + rules + get_or ss (2 * rules) 0)
  unfolding pack_bytes
  pack_long =
      omega (
        arith,
        length_of_bytes (pack_records p),
        ap length (sym pack_kept),
        length-append (symbol_records 0 (take symbols ar)) (kept_rules ss ns rules),
        symbols_counted,
        kept_rules_long rules (omega arith),
      )
