-- When bytes are a text, and when a text can be a pack, in document 02's words.
use Rattle.std.specs.Prelude.{◌≡◌, true, ℕ, ◌≤◌, length}
use mathlib.Core.List.{List, Memᴰ}
use Rattle.texts.specs.Tokens.{tokens, most_text_bytes}
use Rattle.texts.specs.Spelling.{TextRule, Text, spelled_text, variables_bare}
use Rattle.texts.specs.Numbers.{Use, uses, symbols, symbols_in, rule_variables}

-- the bytes are this text: they are not too many, their tokens spell it, and its variables have no argument lists
pub record Spells (bs : List ℕ) (t : Text) : Type 0 where
  pub short : length bs ≤ most_text_bytes
  pub so : tokens bs ≡ spelled_text t
  pub bare : variables_bare t ≡ true

-- a rule's sides have at most 32 nodes, and at most 16 variables stand in it
pub record GoodTextRule (t : Text) (r : TextRule) : Type 0 where
  pub left_few : length (uses r.left) ≤ 32
  pub right_few : length (uses r.right) ≤ 32
  pub variables_few : length (rule_variables t.variables r) ≤ 16

-- no name is used with two arities, and no count is over document 01's limits
pub record GoodText (t : Text) : Type 0 where
  pub symbols_few : length (symbols t) ≤ 64
  pub rules_few : length t.rules ≤ 64
  pub rules_good : (r : TextRule) → Memᴰ r t.rules → GoodTextRule t r
  pub arguments_few : (u : Use) → Memᴰ u (symbols_in t) → u.count ≤ 8
  pub one_arity : (u v : Use) → Memᴰ u (symbols_in t) → Memᴰ v (symbols_in t) → u.name ≡ v.name → u.count ≡ v.count
