-- How the code numbers a text's names: use by use, side by side, with the tables so far. The contracts between our own functions
-- speak of it; no promise to a user does.
use Rattle.std.specs.Prelude.{◌≡◌, true, false, ◌&&◌, cond, List, [], ◌∷◌, ◌++◌, map, ℕ, suc, ◌+◌, leb, ltb, eqb, length}
use Rattle.rewriting.specs.Terms.{Rule}
use Rattle.records.specs.Outcomes.{Outcome, refused, passed, after, unless}
use Rattle.terms.specs.Sides.{Node, variable, symbol, flat}
use Rattle.packs.specs.PackReading.{most_symbols, most_arity, most_rules, most_nodes, variable_count}
use Rattle.texts.specs.Tokens.{Name}
use Rattle.texts.specs.Spelling.{TermPhrase, TextRule, Text, among}
use Rattle.texts.specs.Numbers.{Use, uses, names, place, first_count, numbered, within_limits}

-- the symbols so far with their arities, the variables of the rule so far, all nodes so far
pub record Numbering : Type 0 where
  pub symbols : List Use
  pub variables : List Name
  pub nodes : List Node

abbrev pub none_yet : Numbering
none_yet = record { symbols = []; variables = []; nodes = [] }

unfoldable pub variable_numbered : Name → Numbering → Outcome Numbering
variable_numbered n x =
    cond (among n x.variables)
    (passed (record { symbols = x.symbols; variables = x.variables; nodes = x.nodes ++ (variable (place n x.variables) ∷ []) }))
    (unless (ltb (length x.variables) variable_count) 16
    (passed
    (record { symbols = x.symbols; variables = x.variables ++ (n ∷ []); nodes = x.nodes ++ (variable (length x.variables) ∷ []) })))

unfoldable pub symbol_numbered : Use → Numbering → Outcome Numbering
symbol_numbered u x =
    cond (among u.name (names x.symbols))
    (unless (eqb u.count (first_count u.name x.symbols)) 16
    (passed
    (record { symbols = x.symbols; variables = x.variables; nodes = x.nodes ++ (symbol (place u.name (names x.symbols)) ∷ []) })))
    (unless (ltb (length x.symbols) most_symbols && leb u.count most_arity) 16
    (passed
    (record { symbols = x.symbols ++ (u ∷ []); variables = x.variables; nodes = x.nodes ++ (symbol (length x.symbols) ∷ []) })))

unfoldable pub use_numbered : (variables : List Name) → Use → Numbering → Outcome Numbering
use_numbered vs u x = cond (among u.name vs) (variable_numbered u.name x) (symbol_numbered u x)

unfoldable pub uses_numbered : (variables : List Name) → List Use → Numbering → Outcome Numbering
uses_numbered vs [] x = passed x
uses_numbered vs (u ∷ us) x = after (use_numbered vs u x) (λ y. uses_numbered vs us y)

unfoldable pub side_numbered : (variables : List Name) → TermPhrase → Numbering → Outcome Numbering
side_numbered vs p x = unless (leb (length (uses p)) most_nodes) 16 (uses_numbered vs (uses p) x)

abbrev pub new_rule : Numbering → Numbering
new_rule x = record { symbols = x.symbols; variables = []; nodes = x.nodes }

unfoldable pub rule_numbered : (variables : List Name) → TextRule → Numbering → Outcome Numbering
rule_numbered vs r x = after (side_numbered vs r.left (new_rule x)) (λ y. side_numbered vs r.right y)

-- rules from the k-th on
unfoldable pub rules_numbered : (variables : List Name) → (k : ℕ) → List TextRule → Numbering → Outcome Numbering
rules_numbered vs k [] x = passed x
rules_numbered vs k (r ∷ rs) x =
    unless (ltb k most_rules) 16 (after (rule_numbered vs r x) (λ y. rules_numbered vs (suc k) rs y))

-- where each side ends, the first of them beginning at `from`
unfoldable pub side_ends : (from : ℕ) → List TextRule → List ℕ
side_ends a [] = []
side_ends a (r ∷ rs) =
    let m = a + length (uses r.left) in
    let e = m + length (uses r.right) in
    m ∷ e ∷ side_ends e rs

unfoldable pub rules_nodes : List Rule → List Node
rules_nodes [] = []
rules_nodes (r ∷ rs) = flat r.left ++ (flat r.right ++ rules_nodes rs)

unfoldable pub counts : List Use → List ℕ
counts us = map (λ (u : Use). u.count) us

-- what numbering all rules comes to: 16 exactly if the text is over the limits, else the system's arities and nodes
unfoldable pub NumberedAs : Outcome Numbering → Text → Type 0
NumberedAs (refused n) t = (n ≡ 16) × (within_limits t ≡ false)
NumberedAs (passed y) t =
    (within_limits t ≡ true) × (counts y.symbols ≡ (numbered t).arities) × (y.nodes ≡ rules_nodes (numbered t).rules)
