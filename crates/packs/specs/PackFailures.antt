-- When a pack is refused with 2 to 6, in document 01's words: all that stands before a record is good, and this record fails.
use Rattle.std.specs.Prelude.{◌≡◌, true, false, List, [], ◌∷◌, ◌++◌, ℕ, ◌+◌, ◌-◌, ◌≤◌, ◌<◌, length, get_or}
use Rattle.std.proofs.Math.Option.{Option, none, some}
use Rattle.rewriting.specs.Terms.{Tree, var, System, is_term}
use Rattle.rewriting.specs.Systems.{is_app, variables, member}
use Rattle.records.specs.declared.Record.{Record}
use Rattle.records.specs.Records.{a_record}
use Rattle.records.specs.Order.{s_symbol, r_rule, f_application, v_variable, pack_edge, index, may_follow, last_row}
use Rattle.terms.specs.Sides.{Node, variable, symbol, flat}
use Rattle.packs.specs.Encoding.{node_record, node_records, pack_records, GoodPack}

-- WHAT STANDS BEFORE A RECORD: the symbols and whole rules so far, and of a rule begun the counts that its R names and its nodes so far
pub record Begun : Type 0 where
  pub lefts : ℕ
  pub rights : ℕ
  pub nodes : List Node

pub record SoFar : Type 0 where
  pub whole : System
  pub begun : Option Begun

unfoldable pub begun_records : (number : ℕ) → Option Begun → List Record
begun_records i none = []
begun_records i (some b) = a_record r_rule i b.lefts b.rights ∷ node_records b.nodes

unfoldable pub so_far_records : SoFar → List Record
so_far_records x = pack_records x.whole ++ begun_records (length x.whole.rules) x.begun

-- the nodes still due
unfoldable pub due : Option Begun → ℕ
due none = 0
due (some b) = (b.lefts + b.rights) - length b.nodes

-- a symbol of the pack, or a variable 0 to 15
unfoldable pub NodeIn : System → Node → Type 0
NodeIn p (variable v) = v < 16
NodeIn p (symbol f) = f < length p.arities

pub record GoodBegun (p : System) (b : Begun) : Type 0 where
  pub symbols_some : 1 ≤ length p.arities
  pub rules_fewer : length p.rules < 64
  pub lefts_some : 1 ≤ b.lefts
  pub lefts_few : b.lefts ≤ 32
  pub rights_some : 1 ≤ b.rights
  pub rights_few : b.rights ≤ 32
  pub nodes_due : length b.nodes < b.lefts + b.rights
  pub nodes_in : (k : ℕ) → k < length b.nodes → NodeIn p (get_or b.nodes k (variable 0))

unfoldable pub GoodRest : System → Option Begun → Type 0
GoodRest p none = Unit {0}
GoodRest p (some b) = GoodBegun p b

pub record GoodSoFar (x : SoFar) : Type 0 where
  pub whole_good : GoodPack x.whole
  pub begun_good : GoodRest x.whole x.begun

-- the table lets this come next: a kind's column, or the end of the file
unfoldable pub Follows : SoFar → (next : ℕ) → Type 0
Follows x next = may_follow (last_row pack_edge (so_far_records x)) next (due x.begun) false ≡ true

-- 2 is not given: the table lets its kind stand, byte 1 and every field not named are zero, S and R are in sequence
pub data Stands (x : SoFar) (r : Record) : Type 0 where
  stands_symbol : r.kind ≡ s_symbol → Follows x (index s_symbol) → r.one ≡ 0 → r.a ≡ length x.whole.arities → r.c ≡ 0 → Stands x r
  stands_rule : r.kind ≡ r_rule → Follows x (index r_rule) → r.one ≡ 0 → r.a ≡ length x.whole.rules → Stands x r
  stands_application : r.kind ≡ f_application → Follows x (index f_application) → r.one ≡ 0 → r.b ≡ 0 → r.c ≡ 0 → Stands x r
  stands_variable : r.kind ≡ v_variable → Follows x (index v_variable) → r.one ≡ 0 → r.b ≡ 0 → r.c ≡ 0 → Stands x r

-- nor 3: no 65th symbol or rule, an arity up to 8, 1 to 32 nodes a side, a symbol of the pack, a variable 0 to 15
pub data InRange (x : SoFar) (r : Record) : Type 0 where
  symbol_in_range : r.kind ≡ s_symbol → length x.whole.arities < 64 → r.b ≤ 8 → InRange x r
  rule_in_range : r.kind ≡ r_rule → length x.whole.rules < 64 → 1 ≤ r.b → r.b ≤ 32 → 1 ≤ r.c → r.c ≤ 32 → InRange x r
  application_in_range : r.kind ≡ f_application → r.a < length x.whole.arities → InRange x r
  variable_in_range : r.kind ≡ v_variable → r.a < 16 → InRange x r

-- the record is the last node of the rule begun, whose sides are these nodes
pub record LastNode (x : SoFar) (r : Record) (left right : List Node) : Type 0 where
  pub rule : Begun
  pub is_begun : x.begun ≡ some rule
  pub node : Node
  pub is_node : r ≡ node_record node
  pub node_in : NodeIn x.whole node
  pub sides : rule.nodes ++ (node ∷ []) ≡ left ++ right
  pub left_counted : length left ≡ rule.lefts
  pub right_counted : length right ≡ rule.rights

-- nodes that are exactly one term
pub record OneTerm (p : System) (ns : List Node) : Type 0 where
  pub term : Tree
  pub is : is_term p term ≡ true
  pub nodes : flat term ≡ ns

-- the last node of a rule whose sides are terms
pub record Sides (x : SoFar) (r : Record) : Type 0 where
  pub left : Tree
  pub right : Tree
  pub left_term : is_term x.whole left ≡ true
  pub right_term : is_term x.whole right ≡ true
  pub last : LastNode x r (flat left) (flat right)

-- HOW A RECORD FAILS
-- 2: stray record
unfoldable pub Stray : SoFar → Record → Type 0
Stray x r = Stands x r → ⊥

-- 3: out of range
pub record OutOfRange (x : SoFar) (r : Record) : Type 0 where
  pub stands : Stands x r
  pub fails : InRange x r → ⊥

-- 4: a side's nodes are not exactly one term
pub record BrokenSide (x : SoFar) (r : Record) : Type 0 where
  pub left : List Node
  pub right : List Node
  pub last : LastNode x r left right
  pub fails : OneTerm x.whole left × OneTerm x.whole right → ⊥

-- 5: a left side is a variable
pub record BareLeft (x : SoFar) (r : Record) : Type 0 where
  pub ended : Sides x r
  pub number : ℕ
  pub bare : ended.left ≡ var number

-- 6: a variable of the right is not on the left
pub record LooseVariable (x : SoFar) (r : Record) : Type 0 where
  pub ended : Sides x r
  pub applied : is_app ended.left ≡ true
  pub number : ℕ
  pub on_right : member number (variables ended.right) ≡ true
  pub not_left : member number (variables ended.left) ≡ false

-- THE FIRST RECORD THAT FAILS: those before it are good
pub record First (rs : List Record) (Fails : SoFar → Record → Type 0) : Type 0 where
  pub before : SoFar
  pub good : GoodSoFar before
  pub this : Record
  pub rest : List Record
  pub are : rs ≡ so_far_records before ++ (this ∷ rest)
  pub fails : Fails before this

-- or the file ends against the table
pub record EndsEarly (rs : List Record) : Type 0 where
  pub before : SoFar
  pub good : GoodSoFar before
  pub are : rs ≡ so_far_records before
  pub fails : Follows before pack_edge → ⊥

-- a pack's first failure, by its number in document 01's table
pub data PackFails (rs : List Record) : (number : ℕ) → Type 0 where
  stray_record : First rs Stray → PackFails rs 2
  ends_early : EndsEarly rs → PackFails rs 2
  out_of_range : First rs OutOfRange → PackFails rs 3
  broken_side : First rs BrokenSide → PackFails rs 4
  bare_left : First rs BareLeft → PackFails rs 5
  loose_variable : First rs LooseVariable → PackFails rs 6
