-- A pack that is kept in arrays, so that it can be written. The contracts between our own functions speak of it; no promise to a
-- user does.
use Rattle.std.specs.Prelude.{◌≡◌, true, cond, List, [], ◌∷◌, ◌++◌, map, ℕ, zero, suc, ◌+◌, ◌*◌, ◌-◌, ◌≤◌, ◌<◌, ltb, length, get_or, take, drop}
use Rattle.rewriting.specs.Terms.{System, rule}
use Rattle.records.specs.declared.Record.{Record}
use Rattle.records.specs.Records.{a_record, all_record_bytes}
use Rattle.records.specs.Order.{r_rule, f_application, v_variable}
use Rattle.terms.specs.Sides.{flat}
use Rattle.terms.specs.Kept.{symbols_below, part, nodes_room, starts_room, symbols_room}
use Rattle.packs.specs.PackReading.{most_symbols, most_rules}
use Rattle.packs.specs.Encoding.{pack_bytes}
use Rattle.pack_reader.specs.Stored.{RuleAt}

-- a system is kept in the arrays, its nodes from the first place on
pub record Writable (p : System) (symbols rules : ℕ) (arities starts nodes : List ℕ) : Type 0 where
  pub symbols_are : symbols ≡ length p.arities
  pub rules_are : rules ≡ length p.rules
  pub arities_are : take symbols arities ≡ p.arities
  pub begins : get_or starts 0 0 ≡ 0
  pub rules_at : (i : ℕ) → i < rules → RuleAt starts nodes i (rule p i)
  pub lefts_below : (i : ℕ) → i < rules → symbols_below (flat (rule p i).left) ≡ true
  pub rights_below : (i : ℕ) → i < rules → symbols_below (flat (rule p i).right) ≡ true

-- a pack is to be written
pub record PackAsked (symbols rules : ℕ) (arities starts nodes : List ℕ) : Type 0 where
  pub symbols_few : symbols ≤ most_symbols
  pub rules_few : rules ≤ most_rules
  pub arities_long : length arities ≡ symbols_room
  pub starts_long : length starts ≡ starts_room
  pub nodes_long : length nodes ≡ nodes_room
  pub system : System
  pub writable : Writable system symbols rules arities starts nodes

-- its bytes are to be written to a buffer that holds them
pub record WritingAsked (out : List ℕ) (symbols rules : ℕ) (arities starts nodes : List ℕ) : Type 0 where
  pub pack : PackAsked symbols rules arities starts nodes
  pub fits : length (pack_bytes pack.system) ≤ length out

-- the buffer afterwards: the pack, and what stood behind it
unfoldable pub written : System → (before : List ℕ) → List ℕ
written p o = pack_bytes p ++ drop (length (pack_bytes p)) o

-- RECORDS FROM THE ARRAYS
-- a node's, by its byte
unfoldable pub byte_record : ℕ → Record
byte_record c = cond (ltb c most_symbols) (a_record f_application c 0 0) (a_record v_variable (c - most_symbols) 0 0)

-- rule i's, whose left side begins at a, its right side at b, and which ends at e
unfoldable pub rule_between : (nodes : List ℕ) → (i a b e : ℕ) → List Record
rule_between ns i a b e = a_record r_rule i (b - a) (e - b) ∷ map byte_record (part ns a e)

-- the same, by where its sides start
abbrev pub kept_rule : (starts nodes : List ℕ) → (i : ℕ) → List Record
kept_rule ss ns i = rule_between ns i (get_or ss (2 * i) 0) (get_or ss (2 * i + 1) 0) (get_or ss (2 * i + 2) 0)

-- those of the first n rules
unfoldable pub kept_rules : (starts nodes : List ℕ) → (n : ℕ) → List Record
kept_rules ss ns zero = []
kept_rules ss ns (suc n) = kept_rules ss ns n ++ kept_rule ss ns n

-- what a writer answers and leaves: records from byte `at` on, the byte after them, all else untouched
pub record RecordsWritten (at : ℕ) (rs : List Record) (next : ℕ) (before now : List ℕ) : Type 0 where
  pub ends : next ≡ at + 8 * length rs
  pub list_is : now ≡ take at before ++ (all_record_bytes rs ++ drop next before)

-- nodes are to be written from byte `at` on
pub record NodesAsked (out : List ℕ) (at : ℕ) (nodes : List ℕ) (from to : ℕ) : Type 0 where
  pub ordered : from ≤ to
  pub within : to ≤ length nodes
  pub fits : at + 8 * (to - from) ≤ length out

-- a rule is to be written from byte `at` on
pub record RuleAsked (out : List ℕ) (at i : ℕ) (nodes : List ℕ) (left right end : ℕ) : Type 0 where
  pub number_small : i < most_rules
  pub left_ordered : left ≤ right
  pub right_ordered : right ≤ end
  pub within : end ≤ length nodes
  pub nodes_long : length nodes ≡ nodes_room
  pub fits : at + 8 * (1 + (end - left)) ≤ length out
