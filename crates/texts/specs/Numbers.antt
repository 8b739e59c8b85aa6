-- The numbers that a text's names get, and the limits on its counts. Document 02: symbols are numbered by first appearance in RULES,
-- variables by first appearance within the rule.
use Rattle.std.specs.Prelude.{Bool, true, false, ◌&&◌, not, cond, List, [], ◌∷◌, ◌++◌, map, ℕ, suc, leb, eqb, length}
use Rattle.rewriting.specs.Terms.{Tree, var, app, Rule, System}
use Rattle.packs.specs.PackReading.{most_symbols, most_arity, most_rules, most_nodes, variable_count}
use Rattle.texts.specs.Tokens.{Name}
use Rattle.texts.specs.Spelling.{Phrase, bare, applied, nil, cons, TextRule, Text, same, among}

-- THE NAMES OF A TEXT, from left to right, each with the count of its arguments
pub record Use : Type 0 where
  pub name : Name
  pub count : ℕ

-- how many arguments a list has
unfoldable pub arguments : {l : Bool} → Phrase l → ℕ
arguments (bare n) = 0
arguments (applied n ps) = 0
arguments nil = 0
arguments (cons p ps) = suc (arguments ps)

unfoldable pub uses : {l : Bool} → Phrase l → List Use
uses (bare n) = record { name = n; count = 0 } ∷ []
uses (applied n ps) = record { name = n; count = arguments ps } ∷ uses ps
uses nil = []
uses (cons p ps) = uses p ++ uses ps

unfoldable pub rule_uses : TextRule → List Use
rule_uses r = uses r.left ++ uses r.right

unfoldable pub rules_uses : List TextRule → List Use
rules_uses [] = []
rules_uses (r ∷ rs) = rule_uses r ++ rules_uses rs

-- those of them that are variables' names, and those that are symbols'
unfoldable pub in_front : {A : Type 0} → Bool → A → List A → List A
in_front false x xs = xs
in_front true x xs = x ∷ xs

unfoldable pub variable_names : (variables : List Name) → List Use → List Name
variable_names vs [] = []
variable_names vs (u ∷ us) = in_front (among u.name vs) u.name (variable_names vs us)

unfoldable pub symbol_uses : (variables : List Name) → List Use → List Use
symbol_uses vs [] = []
symbol_uses vs (u ∷ us) = in_front (not (among u.name vs)) u (symbol_uses vs us)

-- FIRST APPEARANCES: a name that was seen is not taken again
unfoldable pub appearing : (seen : List Name) → List Name → List Name
appearing seen [] = seen
appearing seen (n ∷ ns) = appearing (cond (among n seen) seen (seen ++ (n ∷ []))) ns

unfoldable pub first_appearances : List Name → List Name
first_appearances ns = appearing [] ns

-- a name's number is its place among them
unfoldable pub place : Name → List Name → ℕ
place n [] = 0
place n (m ∷ ms) = cond (same n m) 0 (suc (place n ms))

unfoldable pub names : List Use → List Name
names us = map (λ (u : Use). u.name) us

unfoldable pub symbols_in : Text → List Use
symbols_in t = symbol_uses t.variables (rules_uses t.rules)

unfoldable pub symbols : Text → List Name
symbols t = first_appearances (names (symbols_in t))

unfoldable pub rule_variables : (variables : List Name) → TextRule → List Name
rule_variables vs r = first_appearances (variable_names vs (rule_uses r))

-- THE SYSTEM: the text's rules in their order, with these numbers for its names
unfoldable pub tree : (variables symbols numbered : List Name) → {l : Bool} → Phrase l → Tree
tree vs ss xs (bare n) = cond (among n vs) (var (place n xs)) (app (place n ss) Tree.nil)
tree vs ss xs (applied n ps) = app (place n ss) (tree vs ss xs ps)
tree vs ss xs nil = Tree.nil
tree vs ss xs (cons p ps) = Tree.cons (tree vs ss xs p) (tree vs ss xs ps)

unfoldable pub numbered_rule : (variables symbols : List Name) → TextRule → Rule
numbered_rule vs ss r =
    let xs = rule_variables vs r in
    record { left = tree vs ss xs r.left; right = tree vs ss xs r.right }

-- the arguments at a name's first use
unfoldable pub first_count : Name → List Use → ℕ
first_count n [] = 0
first_count n (u ∷ us) = cond (same n u.name) u.count (first_count n us)

unfoldable pub numbered : Text → System
numbered t =
    record {
      arities = map (λ (n : Name). first_count n (symbols_in t)) (symbols t);
      rules = map (numbered_rule t.variables (symbols t)) t.rules;
    }

-- THE LIMITS: every use of a symbol has the count of its first one, and no count is over document 01's limits
unfoldable pub counts_agree : (all : List Use) → List Use → Bool
counts_agree all [] = true
counts_agree all (u ∷ us) =
    (eqb u.count (first_count u.name all) && leb u.count most_arity) && counts_agree all us

unfoldable pub rule_within : (variables : List Name) → TextRule → Bool
rule_within vs r =
    (leb (length (uses r.left)) most_nodes && leb (length (uses r.right)) most_nodes)
    && leb (length (rule_variables vs r)) variable_count

unfoldable pub all_within : (variables : List Name) → List TextRule → Bool
all_within vs [] = true
all_within vs (r ∷ rs) = rule_within vs r && all_within vs rs

unfoldable pub within_limits : Text → Bool
within_limits t =
    (leb (length (symbols t)) most_symbols && leb (length t.rules) most_rules)
    && (counts_agree (symbols_in t) (symbols_in t) && all_within t.variables t.rules)
