-- The encoder alone: a system's records piece by piece, how many they are, and that their fields are in range.
use mathlib.Core.Path.{◌≡◌, refl, ap}
use mathlib.Core.Bool.{true, false}
use mathlib.Core.List.{List, [], ◌∷◌, ◌++◌, append_assoc, append-nil}
use Prim.Native.Nat.{ℕ, suc, ◌+◌, ◌*◌, ◌%◌, ◌≤◌, ◌<◌}
use native.Mathlib.Nat.{add-zero}
use native.Mathlib.Omega.{arith}
use lib.ListN.{length, length-append}
use borrow.Author.Tests.{le-ltb, eq-eqb}
use Rattle.rewriting.specs.Terms.{Rule, System, rule, no_rule}
use Rattle.rewriting.specs.Systems.{GoodRule, Good}
use Rattle.rewriting.proofs.Basics.{Each, each_head, each_tail, each_append, each_by, each_at}
use Rattle.rewriting.proofs.Trees.{term_not_list, term_well}
use Rattle.records.specs.declared.Record.{Record}
use Rattle.records.specs.Records.{a_record, all_record_bytes, length_bad, all_bytes}
use Rattle.records.specs.Order.{s_symbol, r_rule}
use Rattle.records.proofs.Bytes.{InRange, AllInRange, in_range_append, length_of_bytes, all_bytes_of_records}
use Rattle.terms.specs.Sides.{Node, variable, symbol, flat}
use Rattle.packs.specs.PackReading.{most_pack_bytes, most_symbols, most_arity, most_rules, most_nodes, variable_count}
use Rattle.packs.specs.Encoding.{node_record, node_records, symbol_records, rule_records, pack_records, pack_bytes, GoodPack}
use Rattle.terms.proofs.Parsing.{NodeFits, nodes_fit, flat_positive}

-- a rule that a pack can hold
pub record RuleFits (p : System) (u : Rule) : Type 0 where
  pub left_nodes : length (flat u.left) ≤ most_nodes
  pub right_nodes : length (flat u.right) ≤ most_nodes
  pub good : GoodRule p u

pub rules_fit : (p : System) → GoodPack p → Each (RuleFits p) p.rules
unfolding rule Good
rules_fit p g = each_by no_rule p.rules (λ i h. record { left_nodes = g.lefts i h; right_nodes = g.rights i h; good = g.good i h })

-- and a pack of such rules is good
pub fit_good : (p : System) → length p.arities ≤ most_symbols → Each (λ n. n ≤ most_arity) p.arities → length p.rules ≤ most_rules
    → Each (RuleFits p) p.rules → GoodPack p
unfolding Good rule
fit_good p symbols small count fit =
    record {
      symbols = symbols;
      arities_small = each_at 0 small;
      rule_count = count;
      lefts = λ i h. (each_at no_rule fit i h).left_nodes;
      rights = λ i h. (each_at no_rule fit i h).right_nodes;
      good = λ i h. (each_at no_rule fit i h).good;
    }

-- PIECES

pub node_records_append : (ns ms : List Node) → node_records (ns ++ ms) ≡ node_records ns ++ node_records ms
unfolding node_records
node_records_append [] ms = refl
node_records_append (n ∷ ns) ms = ap (λ (l : List Record). node_record n ∷ l) (node_records_append ns ms)

-- a rule's nodes, its sides one after the other
pub nodes_left_right : (u : Rule) (more : List Record)
    → node_records (flat u.left) ++ (node_records (flat u.right) ++ more) ≡ node_records (flat u.left ++ flat u.right) ++ more
nodes_left_right u more = rw (node_records_append, append_assoc)

pub symbol_records_snoc : (i : ℕ) (ar : List ℕ) (n : ℕ) → symbol_records i (ar ++ (n ∷ [])) ≡ symbol_records i ar ++ (a_record s_symbol (i + length ar) n 0 ∷ [])
unfolding symbol_records
symbol_records_snoc i [] n = rw add-zero
symbol_records_snoc i (m ∷ ar) n =
    let e : i + suc (length ar) ≡ suc i + length ar = omega arith in
    rw (e, symbol_records_snoc (suc i) ar n)

pub rule_records_snoc : (i : ℕ) (rs : List Rule) (u : Rule)
    → rule_records i (rs ++ (u ∷ []))
    ≡ rule_records i rs ++ (a_record r_rule (i + length rs) (length (flat u.left)) (length (flat u.right)) ∷ node_records (flat u.left ++ flat u.right))
unfolding rule_records
rule_records_snoc i [] u = rw (add-zero, append-nil, node_records_append)
rule_records_snoc i (v ∷ rs) u =
    let e : i + suc (length rs) ≡ suc i + length rs = omega arith in
    rw (e, rule_records_snoc (suc i) rs u, append_assoc (node_records (flat v.left)), append_assoc (node_records (flat v.right)))

module _ (p : System) (u : Rule) (fits : RuleFits p u) where
  pub left_positive : 0 < length (flat u.left)
  left_positive = flat_positive u.left (term_not_list p u.left fits.good.left_term)

  pub right_positive : 0 < length (flat u.right)
  right_positive = flat_positive u.right (term_not_list p u.right fits.good.right_term)

  pub sides_fit : Each (NodeFits p.arities variable_count) (flat u.left ++ flat u.right)
  sides_fit =
      each_append
      (nodes_fit p variable_count u.left (term_well p u.left fits.good.left_term) fits.good.left_small)
      (nodes_fit p variable_count u.right (term_well p u.right fits.good.right_term) fits.good.right_small)

-- THE BYTES: each field is in range, and there are not too many

pub length_symbols : (i : ℕ) (ar : List ℕ) → length (symbol_records i ar) ≡ length ar
unfolding symbol_records
length_symbols i [] = refl
length_symbols i (n ∷ ar) = ap suc (length_symbols (suc i) ar)

pub length_nodes : (ns : List Node) → length (node_records ns) ≡ length ns
unfolding node_records
length_nodes [] = refl
length_nodes (n ∷ ns) = ap suc (length_nodes ns)

symbols_in_range : (i : ℕ) (ar : List ℕ) → i + length ar ≤ most_symbols → Each (λ n. n ≤ most_arity) ar → AllInRange (symbol_records i ar)
unfolding symbol_records
symbols_in_range i [] few small = tt
symbols_in_range i (n ∷ ar) few small = let h = each_head small in (omega arith, symbols_in_range (suc i) ar (omega arith) (each_tail small))

node_record_in_range : (ar : List ℕ) (n : Node) → length ar ≤ most_symbols → NodeFits ar variable_count n → InRange (node_record n)
unfolding node_record
node_record_in_range ar (variable v) few fits = omega arith
node_record_in_range ar (symbol f) few fits = omega arith

nodes_in_range : (ar : List ℕ) (ns : List Node) → length ar ≤ most_symbols → Each (NodeFits ar variable_count) ns → AllInRange (node_records ns)
unfolding node_records
nodes_in_range ar [] few fits = tt
nodes_in_range ar (n ∷ ns) few fits = (node_record_in_range ar n few (each_head fits), nodes_in_range ar ns few (each_tail fits))

module _ (p : System) where
  length_rules : (i : ℕ) (rs : List Rule) → Each (RuleFits p) rs → length (rule_records i rs) ≤ 65 * length rs
  unfolding rule_records
  length_rules i [] fits = omega arith
  length_rules i (u ∷ rs) fits =
      let h = each_head fits in
      let rest = length_rules (suc i) rs (each_tail fits) in
      simp (length-append, length_nodes) (omega arith)

  rules_in_range : (i : ℕ) (rs : List Rule) → i + length rs ≤ most_rules → length p.arities ≤ most_symbols → Each (RuleFits p) rs → AllInRange (rule_records i rs)
  unfolding rule_records
  rules_in_range i [] few symbols fits = tt
  rules_in_range i (u ∷ rs) few symbols fits =
      let h = each_head fits in
      let sides = flat u.left ++ flat u.right in
      let nodes = nodes_in_range p.arities sides symbols (sides_fit p u h) in
      let rest = rules_in_range (suc i) rs (omega arith) symbols (each_tail fits) in
      (omega arith, rw (nodes_left_right u (rule_records (suc i) rs)) (in_range_append (node_records sides) (rule_records (suc i) rs) nodes rest))

module _ (p : System) (g : GoodPack p) where
  pub records_in_range : AllInRange (pack_records p)
  unfolding pack_records
  records_in_range =
      in_range_append (symbol_records 0 p.arities) (rule_records 0 p.rules)
      (symbols_in_range 0 p.arities (omega (arith, g.symbols)) (each_by 0 p.arities g.arities_small))
      (rules_in_range p 0 p.rules (omega (arith, g.rule_count)) g.symbols (rules_fit p g))

  records_few : 8 * length (pack_records p) ≤ most_pack_bytes
  unfolding pack_records
  records_few =
      let rules = length_rules p 0 p.rules (rules_fit p g) in
      simp (length-append, length_symbols) (omega (arith, g.symbols, g.rule_count))

  pub length_good : length_bad most_pack_bytes (pack_bytes p) ≡ false
  unfolding length_bad pack_bytes
  length_good =
      let few = records_few in
      let l = length_of_bytes (pack_records p) in
      let n = length (all_record_bytes (pack_records p)) in
      rw (le-ltb most_pack_bytes n (omega arith), eq-eqb (n % 8) 0 (omega arith))

  pub bytes_good : all_bytes (pack_bytes p) ≡ true
  unfolding pack_bytes
  bytes_good = all_bytes_of_records (pack_records p) records_in_range
