-- The pack front to back, with refusals 1 to 6: for each record 2 before 3; after a rule's last node 4, 5, 6.
use Rattle.std.specs.Prelude.{Bool, false, ◌&&◌, cond, List, [], ◌∷◌, ◌++◌, ℕ, ◌+◌, ◌-◌, ltb, leb, eqb, length, take, drop}
use Rattle.std.proofs.Math.Option.{Option, none, some}
use Rattle.rewriting.specs.Terms.{Tree, Rule, System}
use Rattle.rewriting.specs.Systems.{is_app, variables, all_in}
use Rattle.records.specs.declared.Record.{Record}
use Rattle.records.specs.Outcomes.{Outcome, refused, passed, after, unless, refusal}
use Rattle.records.specs.Records.{all_records, length_bad}
use Rattle.records.specs.Order.{s_symbol, r_rule, v_variable, pack_edge, index, may_follow}
use Rattle.terms.specs.Sides.{Node, variable, symbol, side}

-- THE LIMITS of document 01
abbrev pub most_pack_bytes : ℕ
most_pack_bytes = 33792

abbrev pub most_symbols : ℕ
most_symbols = 64

abbrev pub most_arity : ℕ
most_arity = 8

abbrev pub most_rules : ℕ
most_rules = 64

abbrev pub most_nodes : ℕ
most_nodes = 32

-- variables are numbered 0 to 15
abbrev pub variable_count : ℕ
variable_count = 16

-- what has been read: the last record's row of the table, symbols and rules, and of a rule begun the nodes of its left
-- side, the nodes still due and those read
pub record PackReading : Type 0 where
  pub last : ℕ
  pub arities : List ℕ
  pub rules : List Rule
  pub lefts : ℕ
  pub due : ℕ
  pub nodes : List Node

abbrev pub between_rules : (last : ℕ) → (arities : List ℕ) → (rules : List Rule) → PackReading
between_rules k ar rs = record { last = k; arities = ar; rules = rs; lefts = 0; due = 0; nodes = [] }

-- S: its number and arity
unfoldable pub symbol_read : Record → PackReading → Outcome PackReading
symbol_read r x =
    let n = length x.arities in
    unless (eqb r.one 0 && (eqb r.c 0 && eqb r.a n)) 2
    (unless (ltb n most_symbols && leb r.b most_arity) 3
    (passed (between_rules (index r.kind) (x.arities ++ (r.b ∷ [])) x.rules)))

unfoldable pub side_count : ℕ → Bool
side_count n = leb 1 n && leb n most_nodes

-- R: its number and the nodes on either side
unfoldable pub rule_read : Record → PackReading → Outcome PackReading
rule_read r x =
    let n = length x.rules in
    unless (eqb r.one 0 && eqb r.a n) 2
    (unless (ltb n most_rules && (side_count r.b && side_count r.c)) 3
    (passed
    (record { last = index r.kind; arities = x.arities; rules = x.rules; lefts = r.b; due = r.b + r.c; nodes = [] })))

-- F and V: a node, with a variable's number below a bound
unfoldable pub node_zeros : Record → Bool
node_zeros r = eqb r.one 0 && (eqb r.b 0 && eqb r.c 0)

unfoldable pub node_in_range : (arities : List ℕ) → (variables : ℕ) → Record → Bool
node_in_range ar vs r = cond (eqb r.kind v_variable) (ltb r.a vs) (ltb r.a (length ar))

unfoldable pub node_of : Record → Node
node_of r = cond (eqb r.kind v_variable) (variable r.a) (symbol r.a)

-- after a rule's last node: 4 left, 4 right, 5, 6
unfoldable pub rule_of : (left right : Option Tree) → Outcome Rule
rule_of none r = refused 4
rule_of (some l) none = refused 4
rule_of (some l) (some r) =
    unless (is_app l) 5 (unless (all_in (variables r) (variables l)) 6 (passed (record { left = l; right = r })))

unfoldable pub rule_ended : (last : ℕ) → PackReading → List Node → Outcome PackReading
rule_ended k x ns =
    after (rule_of (side x.arities (take x.lefts ns)) (side x.arities (drop x.lefts ns)))
    (λ r. passed (between_rules k x.arities (x.rules ++ (r ∷ []))))

unfoldable pub node_read : Record → PackReading → Outcome PackReading
node_read r x =
    let ns = x.nodes ++ (node_of r ∷ []) in
    let k = index r.kind in
    unless (node_zeros r) 2
    (unless (node_in_range x.arities variable_count r) 3
    (cond (eqb x.due 1) (rule_ended k x ns)
    (passed
    (record { last = k; arities = x.arities; rules = x.rules; lefts = x.lefts; due = x.due - 1; nodes = ns }))))

-- one record: 2 where its kind may not stand here
unfoldable pub pack_step : Record → PackReading → Outcome PackReading
pack_step r x =
    unless (may_follow x.last (index r.kind) x.due false) 2
    (cond (eqb r.kind s_symbol) (symbol_read r x) (cond (eqb r.kind r_rule) (rule_read r x) (node_read r x)))

unfoldable pub pack_end : PackReading → Outcome System
pack_end x =
    unless (may_follow x.last pack_edge x.due false) 2 (passed (record { arities = x.arities; rules = x.rules }))

unfoldable pub pack_from : List Record → PackReading → Outcome System
pack_from [] x = pack_end x
pack_from (r ∷ rs) x = after (pack_step r x) (λ y. pack_from rs y)

-- the records alone, without the end of the file
unfoldable pub pack_steps : List Record → PackReading → Outcome PackReading
pack_steps [] x = passed x
pack_steps (r ∷ rs) x = after (pack_step r x) (λ y. pack_steps rs y)

unfoldable pub read_pack : List ℕ → Outcome System
read_pack bs = cond (length_bad most_pack_bytes bs) (refused 1) (pack_from (all_records bs) (between_rules pack_edge [] []))

-- the pack's refusal, 0 for a pack that passes 1 to 6
unfoldable pub pack_refusal : List ℕ → ℕ
pack_refusal bs = refusal (read_pack bs)

unfoldable pub system_of : Outcome System → System
system_of (refused n) = record { arities = []; rules = [] }
system_of (passed p) = p

-- the system of a pack; without symbols and rules for a pack refused
unfoldable pub pack_in : List ℕ → System
pack_in bs = system_of (read_pack bs)
