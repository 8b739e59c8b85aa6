-- How the code keeps a pack that was read: in arrays that the caller lends, a byte a node. The contracts between our own
-- functions speak of it; no promise to a user does.
use Rattle.std.specs.Prelude.{◌≡◌, Bool, true, false, Option, None, Some, Result, Ok, Err, ◌&&◌, ◌||◌, cond, List, [], ◌∷◌, ℕ, zero, suc, ◌+◌, ◌*◌, ◌-◌, ◌%◌, ◌≤◌, ◌<◌, ltb, leb, eqb, length, get_or, take, drop, replicate}
use Rattle.rewriting.specs.Terms.{Rule, System, rule}
use Rattle.rewriting.specs.Pairs.{defined}
use Rattle.rewriting.specs.Systems.{member}
use Rattle.records.specs.declared.Record.{Record}
use Rattle.records.specs.declared.order.Before.{Before}
use Rattle.records.specs.declared.Refusal.{Refusal}
use Rattle.records.specs.Answers.{number_of, outcome_of}
use Rattle.records.specs.Outcomes.{Outcome, refused, passed, after}
use Rattle.records.specs.Records.{record_at}
use Rattle.records.specs.Files.{Whole}
use Rattle.records.specs.Rows.{row_number}
use Rattle.records.specs.Order.{s_symbol, v_variable, index, may_follow}
use Rattle.terms.specs.Sides.{Node, flat}
use Rattle.terms.specs.Kept.{code, codes, Kept, balanced, nodes_room, starts_room, symbols_room}
use Rattle.packs.specs.PackReading.{node_zeros, node_of, side_count, most_pack_bytes, most_symbols, most_arity, most_rules, variable_count}
use Rattle.packs.specs.Encoding.{GoodPack}
use Rattle.pack_reader.specs.declared.Pack.{Pack}

-- rule i's left side begins at starts[2i], its right side at starts[2i + 1], and ends where the next left side begins
pub record RuleAt (starts nodes : List ℕ) (i : ℕ) (r : Rule) : Type 0 where
  pub left_kept : Kept nodes (get_or starts (2 * i) 0) (flat r.left)
  pub right_kept : Kept nodes (get_or starts (2 * i + 1) 0) (flat r.right)
  pub left_long : get_or starts (2 * i + 1) 0 ≡ get_or starts (2 * i) 0 + length (flat r.left)
  pub right_long : get_or starts (2 * i + 2) 0 ≡ get_or starts (2 * i + 1) 0 + length (flat r.right)

-- symbols' arities, rules and their nodes, and a flag of 1 for each defined symbol
pub record Stored (p : System) (symbols rules : ℕ) (arities starts nodes flags : List ℕ) : Type 0 where
  pub symbols_are : symbols ≡ length p.arities
  pub rules_are : rules ≡ length p.rules
  pub arities_are : take symbols arities ≡ p.arities
  pub rules_at : (i : ℕ) → i < rules → RuleAt starts nodes i (rule p i)
  pub flags_are : (f : ℕ) → f < 64 → get_or flags f 0 ≡ cond (defined p f) 1 0
  pub good : GoodPack p

-- ONE NODE RECORD: 2, then 3
unfoldable pub node_outcome : (symbols : ℕ) → Record → Outcome Node
node_outcome n r =
    cond (node_zeros r)
    (cond (cond (eqb r.kind v_variable) (ltb r.a variable_count) (ltb r.a n)) (passed (node_of r)) (refused 3))
    (refused 2)

unfoldable pub coded : Outcome Node → Outcome ℕ
coded (refused n) = refused n
coded (passed x) = passed (code x)

-- A RULE'S NODES: the row of the last one's kind, and the nodes
pub record Run : Type 0 where
  pub last : ℕ
  pub nodes : List Node

unfoldable pub more_run : Node → Run → Outcome Run
more_run x y = passed (record { last = y.last; nodes = x ∷ y.nodes })

unfoldable pub node_steps : (symbols before count : ℕ) → List Record → Outcome Run
node_steps n k zero rs = passed (record { last = k; nodes = [] })
node_steps n k (suc c) [] = refused 2
node_steps n k (suc c) (r ∷ rs) =
    cond (may_follow k (index r.kind) (suc c) false)
    (after (node_outcome n r) (λ x. after (node_steps n (index r.kind) c rs) (λ y. more_run x y)))
    (refused 2)

-- `count` nodes are to be read to nodes[base..], the first of them record `from`
pub record NodesAsked (pack : List ℕ) (from count symbols : ℕ) (nodes : List ℕ) (base : ℕ) : Type 0 where
  pub whole : length pack % 8 ≡ 0
  pub near : from + count ≤ 65536
  pub symbols_few : symbols ≤ most_symbols
  pub room : base + count ≤ length nodes

-- a list of the same length, its bytes before `base` untouched
pub record SameBefore (base : ℕ) (before now : List ℕ) : Type 0 where
  pub long : length now ≡ length before
  pub same : take base now ≡ take base before

-- a row that is answered, by its number
abbrev pub row_outcome : Result Before Refusal → Outcome ℕ
row_outcome (Ok k) = passed (row_number k)
row_outcome (Err x) = refused (number_of x)

-- what `read_nodes` answers and leaves: the nodes from `base` on, the bytes before them untouched
pub record NodesRead (o : Outcome Run) (x : Result Before Refusal) (base : ℕ) (before now : List ℕ) : Type 0 where
  pub answers : row_outcome x ≡ after o (λ y. passed y.last)
  pub untouched : SameBefore base before now
  pub kept : (y : Run) → o ≡ passed y → Kept now base y.nodes

-- every variable among the nodes was seen
unfoldable pub all_seen : (seen : List Bool) → (nodes : List ℕ) → Bool
all_seen sn [] = true
all_seen sn (c ∷ cs) = (ltb c 64 || get_or sn (c - 64) false) && all_seen sn cs

-- what was seen are the variables among the nodes
unfoldable pub SeenIn : (nodes : List ℕ) → (seen : List Bool) → Type 0
SeenIn cs sn = (v : ℕ) → v < 16 → get_or sn v false ≡ member (64 + v) cs

-- 4, 5, 6 of a rule in bytes
unfoldable pub variables_in : (these those : List ℕ) → Bool
variables_in [] ds = true
variables_in (c ∷ cs) ds = (ltb c 64 || (ltb c 80 && member c ds)) && variables_in cs ds

unfoldable pub rule_judged : (arities left right : List ℕ) → Outcome (Unit {0})
rule_judged ar ls rs =
    cond (balanced ar 1 ls && balanced ar 1 rs)
    (cond (ltb (get_or ls 0 0) 64) (cond (variables_in rs ls) (passed tt) (refused 6)) (refused 5))
    (refused 4)

-- what `read_rule` answers and leaves: the nodes, then 4, 5, 6 in bytes
pub record RuleRead (o : Outcome Run) (left : ℕ) (arities : List ℕ) (x : Result Before Refusal) (base : ℕ) (before now : List ℕ) : Type 0 where
  pub answers :
      row_outcome x ≡ after o (λ y. after (rule_judged arities (codes (take left y.nodes)) (codes (drop left y.nodes))) (λ k. passed y.last))
  pub untouched : SameBefore base before now
  pub kept : (y : Run) → o ≡ passed y → Kept now base y.nodes

-- a rule's nodes are to be read, `left` of its left side and `right` of its right
pub record RuleAsked (pack : List ℕ) (from left right symbols : ℕ) (arities nodes : List ℕ) (base : ℕ) : Type 0 where
  pub whole : length pack % 8 ≡ 0
  pub near : from ≤ 8192
  pub symbols_few : symbols ≤ most_symbols
  pub arities_long : length arities ≡ symbols_room
  pub left_some : 1 ≤ left
  pub left_few : left ≤ 32
  pub right_few : right ≤ 32
  pub room : base + 64 ≤ length nodes
  pub nodes_few : length nodes ≤ 65536

-- where rule i's right side begins and ends is to be kept
pub record EndsAsked (starts : List ℕ) (i middle end : ℕ) : Type 0 where
  pub room : 2 * i + 2 < length starts
  pub middle_small : middle < 65536
  pub end_small : end < 65536

-- the nodes of a side are to be judged
pub record SideAsked (arities nodes : List ℕ) (from to : ℕ) : Type 0 where
  pub arities_long : length arities ≡ symbols_room
  pub ordered : from ≤ to
  pub within : to ≤ length nodes
  pub near : to ≤ 65536

-- of a left side, where no variable was seen yet
pub record LeftAsked (arities nodes : List ℕ) (from to : ℕ) (seen : List Bool) : Type 0 where
  pub side : SideAsked arities nodes from to
  pub none_seen : seen ≡ replicate variable_count false

-- of a right side
pub record RightAsked (arities nodes : List ℕ) (from to : ℕ) (seen : List Bool) : Type 0 where
  pub side : SideAsked arities nodes from to
  pub seen_long : length seen ≡ variable_count

-- what `left_side` answers and leaves: whether they are exactly one term, and if so, the variables among them
pub record LeftJudged (arities nodes : List ℕ) (seen : List Bool) (one : Bool) : Type 0 where
  pub told : one ≡ balanced arities 1 nodes
  pub long : length seen ≡ variable_count
  pub variables : one ≡ true → SeenIn nodes seen

-- what `right_side` answers: nothing where they are not, else whether all its variables were seen
abbrev pub RightJudged : (arities nodes : List ℕ) → (seen : List Bool) → Option Bool → Type 0
RightJudged ar ns sn None = balanced ar 1 ns ≡ false
RightJudged ar ns sn (Some closed) = (balanced ar 1 ns ≡ true) × (closed ≡ all_seen sn ns)

-- both sides of a rule
pub record SidesAsked (arities nodes : List ℕ) (left right end : ℕ) : Type 0 where
  pub arities_long : length arities ≡ symbols_room
  pub left_some : left < right
  pub ordered : right ≤ end
  pub within : end ≤ length nodes
  pub near : end ≤ 65536

-- the roots of the left sides are to be flagged
pub record FlagsAsked (starts nodes : List ℕ) (rules : ℕ) (flags : List ℕ) : Type 0 where
  pub rules_few : rules ≤ most_rules
  pub starts_long : length starts ≡ starts_room
  pub flags_long : length flags ≡ symbols_room
  pub within : (i : ℕ) → i < rules → get_or starts (2 * i) 0 < length nodes

-- what `flag_defined` leaves: a flag of 1 for each byte below 64 that begins a left side
unfoldable pub begins_left : (starts nodes : List ℕ) → (rules : ℕ) → (f : ℕ) → Bool
begins_left ss ns zero f = false
begins_left ss ns (suc i) f = eqb (get_or ns (get_or ss (2 * i) 0) 0) f || begins_left ss ns i f

unfoldable pub Flagged : (starts nodes : List ℕ) → (rules : ℕ) → (flags : List ℕ) → Type 0
Flagged ss ns n ms = (f : ℕ) → f < 64 → get_or ms f 0 ≡ cond (begins_left ss ns n f) 1 0

-- SYMBOLS: one S record, then all of them up to the first R or the end
unfoldable pub arity_outcome : (i : ℕ) → Record → Outcome ℕ
arity_outcome i r =
    cond (eqb r.one 0 && (eqb r.c 0 && eqb r.a i))
    (cond (ltb i most_symbols && leb r.b most_arity) (passed r.b) (refused 3))
    (refused 2)

unfoldable pub symbol_steps : (before i : ℕ) → List Record → Outcome (List ℕ)
symbol_steps k i [] = passed []
symbol_steps k i (r ∷ rs) =
    cond (may_follow k (index r.kind) 0 false)
    (cond (eqb r.kind s_symbol)
    (after (arity_outcome i r) (λ n. after (symbol_steps (index r.kind) (suc i) rs) (λ ar. passed (n ∷ ar))))
    (passed []))
    (refused 2)

-- symbols are to be read into `arities`
pub record SymbolsAsked (pack arities : List ℕ) : Type 0 where
  pub file : Whole most_pack_bytes pack
  pub arities_long : length arities ≡ symbols_room

unfoldable pub SymbolsRead : Outcome (List ℕ) → Result ℕ Refusal → (arities : List ℕ) → Type 0
SymbolsRead (refused n) x z = outcome_of x ≡ refused n
SymbolsRead (passed ar) x z = (outcome_of x ≡ passed (length ar)) × (take (length ar) z ≡ ar)

-- RULES: the row of what stands before the first R, and all rules up to the end
unfoldable pub row_after : (symbols : ℕ) → ℕ
row_after zero = 0
row_after (suc n) = 1

unfoldable pub rule_header : (i : ℕ) → Record → Outcome (Unit {0})
rule_header i r =
    cond (eqb r.one 0 && eqb r.a i)
    (cond (ltb i most_rules && (side_count r.b && side_count r.c)) (passed tt) (refused 3))
    (refused 2)

-- rules are to be read, of a pack whose first `symbols` records were its symbols
pub record RulesAsked (pack : List ℕ) (symbols : ℕ) (arities starts nodes : List ℕ) : Type 0 where
  pub file : Whole most_pack_bytes pack
  pub symbols_few : symbols ≤ most_symbols
  pub arities_long : length arities ≡ symbols_room
  pub starts_long : length starts ≡ starts_room
  pub nodes_long : length nodes ≡ nodes_room
  pub no_symbol_more : 8 * symbols + 8 ≤ length pack → (record_at pack (8 * symbols)).kind ≡ s_symbol → ⊥

unfoldable pub RulesRead : Outcome System → (arities : List ℕ) → Result ℕ Refusal → (starts nodes : List ℕ) → Type 0
RulesRead (refused n) ar x ss ns = outcome_of x ≡ refused n
RulesRead (passed p) ar x ss ns =
    (outcome_of x ≡ passed (length p.rules)) × (p.arities ≡ ar) × ((i : ℕ) → i < length p.rules → RuleAt ss ns i (rule p i))

-- THE PACK
-- a pack is kept there
abbrev pub KeptIn : System → Pack → Type 0
KeptIn p k = Stored p k.symbols k.rules k.arities k.starts k.nodes k.defined

-- the arrays have the lengths of their types
pub record Room (k : Pack) : Type 0 where
  pub arities_long : length k.arities ≡ symbols_room
  pub starts_long : length k.starts ≡ starts_room
  pub nodes_long : length k.nodes ≡ nodes_room
  pub flags_long : length k.defined ≡ symbols_room

unfoldable pub PackReadAs : Outcome System → Result (Unit {0}) Refusal → Pack → Type 0
PackReadAs (refused n) x k = (y : Refusal) × (x ≡ Err y) × (number_of y ≡ n)
PackReadAs (passed p) x k = (x ≡ Ok tt) × KeptIn p k × Room k
