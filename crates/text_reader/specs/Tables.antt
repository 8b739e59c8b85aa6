-- How the code keeps the numbers of names: tables of symbols and of the rule's variables, and the nodes. The contracts between our own
-- functions speak of it; no promise to a user does.
use Rattle.std.specs.Prelude.{◌≡◌, Option, Some, None, Result, Ok, Err, true, false, ◌&&◌, List, [], ◌∷◌, ◌++◌, ℕ, zero, suc, ◌+◌, ◌*◌, ◌/◌, ◌%◌, ◌≤◌, ◌<◌, leb, ltb, length, get_or, take, set}
use Rattle.rewriting.specs.Terms.{System}
use Rattle.records.specs.declared.Refusal.{Refusal}
use Rattle.records.specs.Answers.{number_of}
use Rattle.records.specs.Outcomes.{Outcome, refused, passed}
use Rattle.terms.specs.Kept.{codes, nodes_room, starts_room, symbols_room}
use Rattle.packs.specs.PackReading.{most_nodes, most_symbols, most_arity, most_rules, variable_count}
use Rattle.pack_reader.specs.declared.Pack.{Pack}
use Rattle.text_reader.specs.declared.rules.Counts.{Counts}
use Rattle.pack_writer.specs.Writing.{Writable}
use Rattle.texts.specs.Tokens.{Name, Token, most_text_bytes}
use Rattle.texts.specs.Spelling.{TextRule, among}
use Rattle.texts.specs.Numbers.{Use, place}
use Rattle.texts.specs.Working.{Numbering, counts, side_ends}
use Rattle.text_tokens.specs.Told.{name_at, tokens_at}
use Rattle.text_names.specs.declared.Table.{Table}
use Rattle.text_names.specs.Table.{hash, hashes, VariablesKept}
use Rattle.text_sides.specs.declared.Use.{Use as KeptUse}
use Rattle.text_sides.specs.Sides.{use_at}
use Rattle.text_reader.specs.declared.numbering.Seen.{Seen}
use Rattle.text_reader.specs.declared.rules.SideKept.{SideKept}
use Rattle.text_reader.specs.declared.rules.RuleKept.{RuleKept}

-- NAMES IN A TABLE: an entry has the place where a name begins, and its hash
unfoldable pub name_entry : (place hash : ℕ) → ℕ
name_entry s h = h * 65536 + s

unfoldable pub kept_name : (text names : List ℕ) → ℕ → Name
kept_name text ns k = name_at text (get_or ns k 0 % 65536)

-- the first n of them
unfoldable pub kept_names : (text names : List ℕ) → ℕ → List Name
kept_names text ns zero = []
kept_names text ns (suc n) = kept_names text ns n ++ (kept_name text ns n ∷ [])

pub record NamesKept (text names : List ℕ) (n : ℕ) : Type 0 where
  pub hashed : (k : ℕ) → k < n → get_or names k 0 / 65536 ≡ hash (kept_name text names k)
  pub places : (k : ℕ) → k < n → get_or names k 0 % 65536 ≤ length text

-- a symbol with its arity
unfoldable pub kept_symbol : (text names arities : List ℕ) → ℕ → Use
kept_symbol text ns ar k = record { name = kept_name text ns k; count = get_or ar k 0 }

unfoldable pub kept_symbols : (text names arities : List ℕ) → ℕ → List Use
kept_symbols text ns ar zero = []
kept_symbols text ns ar (suc n) = kept_symbols text ns ar n ++ (kept_symbol text ns ar n ∷ [])

-- a name that is to be found or numbered: its place and its hash
pub record NameGiven (text : List ℕ) (s h : ℕ) : Type 0 where
  pub text_short : length text ≤ most_text_bytes
  pub within : s ≤ length text
  pub hash_is : h ≡ hash (name_at text s)
  pub hash_small : h < hashes

pub record FindAsked (text names : List ℕ) (n s h : ℕ) : Type 0 where
  pub given : NameGiven text s h
  pub kept : NamesKept text names n
  pub long : n ≤ length names

-- the place that is sought among the first n; none if it is not one of them
abbrev pub Sought : (place n : ℕ) → Option ℕ → Type 0
Sought p n None = n ≡ p
Sought p n (Some i) = (i ≡ p) × (i < n)

-- a variable is to be numbered: a new one gets the next number
pub record VariableAsked (text : List ℕ) (s h : ℕ) (names : List ℕ) (n : ℕ) : Type 0 where
  pub find : FindAsked text names n s h
  pub long : length names ≡ variable_count
  pub few : n ≤ variable_count

-- the table with a name put at place n
unfoldable pub with_name : (names : List ℕ) → (n s h : ℕ) → List ℕ
with_name ns n s h = set ns n (name_entry s h)

-- what numbering it comes to: the number of one that was seen, the next one for a new one, or one too many
pub data VariableTold (text : List ℕ) (s h : ℕ) (o z : List ℕ) (n : ℕ) : Option ℕ → Type 0 where
  variable_known : (i : ℕ) → i ≡ place (name_at text s) (kept_names text o n) → among (name_at text s) (kept_names text o n) ≡ true → z ≡ o
      → VariableTold text s h o z n (Some i)
  variable_new : among (name_at text s) (kept_names text o n) ≡ false → n < variable_count → z ≡ with_name o n s h → VariableTold text s h o z n (Some n)
  variables_full : among (name_at text s) (kept_names text o n) ≡ false → variable_count ≤ n → VariableTold text s h o z n None

-- a symbol with its count is to be numbered
pub record SymbolAsked (text : List ℕ) (s h count : ℕ) (names arities : List ℕ) (n : ℕ) : Type 0 where
  pub find : FindAsked text names n s h
  pub long : length names ≡ symbols_room
  pub arities_long : length arities ≡ symbols_room
  pub few : n ≤ most_symbols
  pub count_few : count ≤ most_nodes

-- likewise; a symbol that was seen is refused with another count, a new one with too large a count
pub data SymbolTold (text : List ℕ) (s h count : ℕ) (o z p q : List ℕ) (n : ℕ) : Option ℕ → Type 0 where
  symbol_known : (i : ℕ) → i ≡ place (name_at text s) (kept_names text o n) → among (name_at text s) (kept_names text o n) ≡ true → count ≡ get_or p i 0 → z ≡ o → q ≡ p
      → SymbolTold text s h count o z p q n (Some i)
  symbol_new : among (name_at text s) (kept_names text o n) ≡ false → n < most_symbols → count ≤ most_arity → z ≡ with_name o n s h → q ≡ set p n count
      → SymbolTold text s h count o z p q n (Some n)
  other_count : among (name_at text s) (kept_names text o n) ≡ true → (count ≡ get_or p (place (name_at text s) (kept_names text o n)) 0 → ⊥)
      → SymbolTold text s h count o z p q n None
  symbol_over : among (name_at text s) (kept_names text o n) ≡ false → ltb n most_symbols && leb count most_arity ≡ false
      → SymbolTold text s h count o z p q n None

unfoldable pub a_use : (text : List ℕ) → (place count : ℕ) → Use
a_use text s k = record { name = name_at text s; count = k }

-- ALL TABLES: what numbering has come to so far
pub record TablesKept (text symbols arities variables nodes : List ℕ) (seen : Seen) (x : Numbering) : Type 0 where
  pub symbols_are : kept_symbols text symbols arities seen.symbols ≡ x.symbols
  pub variables_are : kept_names text variables seen.variables ≡ x.variables
  pub nodes_are : take seen.nodes nodes ≡ codes x.nodes
  pub nodes_many : seen.nodes ≡ length x.nodes

-- the arrays, and what holds of their entries whatever they mean
pub record TablesGood (text symbols arities variables nodes : List ℕ) (seen : Seen) : Type 0 where
  pub symbols_long : length symbols ≡ symbols_room
  pub arities_long : length arities ≡ symbols_room
  pub variables_long : length variables ≡ variable_count
  pub nodes_long : length nodes ≡ nodes_room
  pub symbols_few : seen.symbols ≤ most_symbols
  pub variables_few : seen.variables ≤ variable_count
  pub symbols_kept : NamesKept text symbols seen.symbols
  pub variables_kept : NamesKept text variables seen.variables

-- a name is to be numbered, with room for its node
pub record UseAsked (text : List ℕ) (table : Table) (s count : ℕ) (symbols arities variables nodes : List ℕ) (seen : Seen) : Type 0 where
  pub names : List Name
  pub kept : VariablesKept text table names
  pub within : s ≤ length text
  pub count_few : count ≤ most_nodes
  pub tables : TablesGood text symbols arities variables nodes seen
  pub room : seen.nodes < nodes_room

-- so are names of a side
pub record UsesAsked (text : List ℕ) (table : Table) (uses : List KeptUse) (symbols arities variables nodes : List ℕ) (seen : Seen) : Type 0 where
  pub names : List Name
  pub kept : VariablesKept text table names
  pub places : (k : ℕ) → k < length uses → (use_at uses k).place ≤ length text
  pub counts_few : (k : ℕ) → k < length uses → (use_at uses k).count ≤ most_nodes
  pub tables : TablesGood text symbols arities variables nodes seen
  pub room : seen.nodes + length uses ≤ nodes_room

-- whatever is numbered: the tables stay good, and so many nodes are added
unfoldable pub NumberingGoes : (text symbols arities variables nodes : List ℕ) → (before added : ℕ) → Option Seen → Type 0
NumberingGoes text ss ar xs ns a n None = (length ss ≡ symbols_room) × (length ar ≡ symbols_room) × (length xs ≡ variable_count) × (length ns ≡ nodes_room)
NumberingGoes text ss ar xs ns a n (Some y) = TablesGood text ss ar xs ns y × (y.nodes ≡ a + n)

-- what numbering comes to: refused with 16, or the tables afterwards
unfoldable pub NumberingTold : Outcome Numbering → (text symbols arities variables nodes : List ℕ) → Option Seen → Type 0
NumberingTold (refused n) text ss ar xs ns r = r ≡ None
NumberingTold (passed y) text ss ar xs ns r = (seen : Seen) × (r ≡ Some seen) × TablesKept text ss ar xs ns seen y

-- SIDES AND RULES are to be read and numbered, with room for some nodes more
pub record ReadAsked (text : List ℕ) (at : ℕ) (table : Table) (uses : List KeptUse) (symbols arities variables nodes : List ℕ) (seen : Seen) (more : ℕ) : Type 0 where
  pub names : List Name
  pub kept : VariablesKept text table names
  pub within : at ≤ length text
  pub uses_long : length uses ≡ most_nodes
  pub tables : TablesGood text symbols arities variables nodes seen
  pub room : seen.nodes + more ≤ nodes_room

-- the arrays keep their lengths
pub record TablesLong (uses : List KeptUse) (symbols arities variables nodes : List ℕ) : Type 0 where
  pub uses_long : length uses ≡ most_nodes
  pub symbols_long : length symbols ≡ symbols_room
  pub arities_long : length arities ≡ symbols_room
  pub variables_long : length variables ≡ variable_count
  pub nodes_long : length nodes ≡ nodes_room

-- whatever is read: the reader moves on, and the tables stay good
pub record ReadOn (text : List ℕ) (at e : ℕ) (uses : List KeptUse) (symbols arities variables nodes : List ℕ) (seen : Seen) (most : ℕ) : Type 0 where
  pub forth : at < e
  pub within : e ≤ length text
  pub uses_long : length uses ≡ most_nodes
  pub tables : TablesGood text symbols arities variables nodes seen
  pub nodes_few : seen.nodes ≤ most

unfoldable pub SideGoes : (text : List ℕ) → (at : ℕ) → (uses : List KeptUse) → (symbols arities variables nodes : List ℕ) → (before : ℕ) → Option SideKept → Type 0
SideGoes text at us ss ar xs ns a None = TablesLong us ss ar xs ns
SideGoes text at us ss ar xs ns a (Some r) = ReadOn text at r.next us ss ar xs ns r.seen (a + most_nodes)

unfoldable pub RuleGoes : (text : List ℕ) → (at : ℕ) → (uses : List KeptUse) → (symbols arities variables nodes : List ℕ) → (before : ℕ) → Option RuleKept → Type 0
RuleGoes text at us ss ar xs ns a None = TablesLong us ss ar xs ns
RuleGoes text at us ss ar xs ns a (Some r) =
    ReadOn text at r.next us ss ar xs ns r.seen (a + 2 * most_nodes) × (r.middle ≤ a + most_nodes)

-- what a side comes to: refused with 16, or the tables and the place behind it
unfoldable pub SideKeptTold : Outcome Numbering → (rest : List Token) → (text symbols arities variables nodes : List ℕ) → Option SideKept → Type 0
SideKeptTold (refused n) rest text ss ar xs ns r = r ≡ None
SideKeptTold (passed y) rest text ss ar xs ns r =
    (side : SideKept) × (r ≡ Some side) × (tokens_at text side.next ≡ rest) × TablesKept text ss ar xs ns side.seen y

unfoldable pub RuleTold : Outcome Numbering → (middle : ℕ) → (rest : List Token) → (text symbols arities variables nodes : List ℕ) → Option RuleKept → Type 0
RuleTold (refused n) m rest text ss ar xs ns r = r ≡ None
RuleTold (passed y) m rest text ss ar xs ns r =
    (rule : RuleKept) × (r ≡ Some rule) × (rule.middle ≡ m) × (tokens_at text rule.next ≡ rest) × TablesKept text ss ar xs ns rule.seen y

-- A PACK IN THE ARRAYS
pub record Room (arities starts nodes : List ℕ) : Type 0 where
  pub arities_long : length arities ≡ symbols_room
  pub starts_long : length starts ≡ starts_room
  pub nodes_long : length nodes ≡ nodes_room

-- refused with a number
unfoldable pub RefusedWith : ℕ → Result Counts Refusal → Type 0
RefusedWith n r = (y : Refusal) × (r ≡ Err y) × (number_of y ≡ n)

-- rules of a text are to be read at a place
pub record RulesGiven (text : List ℕ) (at : ℕ) (table : Table) (arities starts nodes : List ℕ) : Type 0 where
  pub variables : List Name
  pub kept : VariablesKept text table variables
  pub within : at ≤ length text
  pub room : Room arities starts nodes

-- rules that were numbered are kept: arities, nodes, and where each side starts
pub record RulesKept (y : Numbering) (rs : List TextRule) (c : Counts) (arities starts nodes : List ℕ) : Type 0 where
  pub rules_are : c.rules ≡ length rs
  pub rules_few : c.rules ≤ most_rules
  pub symbols_are : c.symbols ≡ length y.symbols
  pub symbols_few : c.symbols ≤ most_symbols
  pub arities_are : take c.symbols arities ≡ counts y.symbols
  pub nodes_are : take (length y.nodes) nodes ≡ codes y.nodes
  pub nodes_within : length y.nodes ≤ nodes_room
  pub starts_are : take (1 + 2 * length rs) starts ≡ 0 ∷ side_ends 0 rs
  pub room : Room arities starts nodes

unfoldable pub RulesTold : Outcome Numbering → List TextRule → Result Counts Refusal → (arities starts nodes : List ℕ) → Type 0
RulesTold (refused n) rs r ar ss ns = RefusedWith 16 r
RulesTold (passed y) rs r ar ss ns = (c : Counts) × (r ≡ Ok c) × RulesKept y rs c ar ss ns

-- what reading a text comes to: a refusal, or the pack in the arrays
unfoldable pub TextTold : Outcome System → Result Counts Refusal → (arities starts nodes : List ℕ) → Type 0
TextTold (refused n) r ar ss ns = RefusedWith n r
TextTold (passed p) r ar ss ns = (c : Counts) × (r ≡ Ok c) × Room ar ss ns × Writable p c.symbols c.rules ar ss ns × (c.symbols ≤ most_symbols) × (c.rules ≤ most_rules)

-- and the pack itself
unfoldable pub PackTold : Outcome System → Result (Unit {0}) Refusal → Pack → Type 0
PackTold (refused n) r k = (y : Refusal) × (r ≡ Err y) × (number_of y ≡ n)
PackTold (passed p) r k =
    (r ≡ Ok tt) × Room k.arities k.starts k.nodes × Writable p k.symbols k.rules k.arities k.starts k.nodes × (k.symbols ≤ most_symbols) × (k.rules ≤ most_rules)
