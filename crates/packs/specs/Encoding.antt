-- The way back: the bytes of a system, and which systems can be written.
use Rattle.std.specs.Prelude.{List, [], ◌∷◌, ◌++◌, ℕ, suc, ◌≤◌, ◌<◌, length, get_or}
use Rattle.rewriting.specs.Terms.{Rule, System, rule}
use Rattle.rewriting.specs.Systems.{Good}
use Rattle.records.specs.declared.Record.{Record}
use Rattle.records.specs.Records.{a_record, all_record_bytes}
use Rattle.records.specs.Order.{s_symbol, r_rule, f_application, v_variable}
use Rattle.terms.specs.Sides.{Node, variable, symbol, flat}

unfoldable pub node_record : Node → Record
node_record (variable v) = a_record v_variable v 0 0
node_record (symbol f) = a_record f_application f 0 0

unfoldable pub node_records : List Node → List Record
node_records [] = []
node_records (n ∷ ns) = node_record n ∷ node_records ns

-- symbols and rules are numbered by their places, here from i
unfoldable pub symbol_records : (i : ℕ) → (arities : List ℕ) → List Record
symbol_records i [] = []
symbol_records i (n ∷ ar) = a_record s_symbol i n 0 ∷ symbol_records (suc i) ar

unfoldable pub rule_records : (i : ℕ) → List Rule → List Record
rule_records i [] = []
rule_records i (r ∷ rs) =
    a_record r_rule i (length (flat r.left)) (length (flat r.right))
    ∷ (node_records (flat r.left) ++ (node_records (flat r.right) ++ rule_records (suc i) rs))

unfoldable pub pack_records : System → List Record
pack_records p = symbol_records 0 p.arities ++ rule_records 0 p.rules

unfoldable pub pack_bytes : System → List ℕ
pack_bytes p = all_record_bytes (pack_records p)

-- what document 01 allows a pack to be, in its own numbers
pub record GoodPack (p : System) : Type 0 where
  pub symbols : length p.arities ≤ 64
  pub arities_small : (f : ℕ) → f < length p.arities → get_or p.arities f 0 ≤ 8
  pub rule_count : length p.rules ≤ 64
  pub lefts : (i : ℕ) → i < length p.rules → length (flat (rule p i).left) ≤ 32
  pub rights : (i : ℕ) → i < length p.rules → length (flat (rule p i).right) ≤ 32
  pub good : Good p
