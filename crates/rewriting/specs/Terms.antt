-- Terms over a signature, rules, substitutions.
use Rattle.std.specs.Prelude.{◌≡◌, Bool, true, false, ◌&&◌, not, List, ℕ, suc, ltb, eqb, length, get_or}

-- Terms and argument lists are one kind of tree. With a list of terms inside a term every definition and every proof would be two that
-- call each other; so each is one, with a clause for terms and one for lists. `is_list` and `well` tell the two apart, and what a
-- definition says of a tree that is neither matters to nobody: whatever is read is well formed.
pub data Tree : Type 0 where
  -- a variable, with any number
  var : ℕ → Tree
  -- a symbol's number and its argument list
  app : ℕ → Tree → Tree
  -- the empty argument list
  nil : Tree
  -- an argument and the arguments after it
  cons : Tree → Tree → Tree

pub record Rule : Type 0 where
  pub left : Tree
  pub right : Tree

-- a term rewriting system (document 01: a pack): the arity of each symbol, by its number, and the rules
pub record System : Type 0 where
  pub arities : List ℕ
  pub rules : List Rule

-- how many arguments a list has
unfoldable pub width : Tree → ℕ
width (var v) = 0
width (app f ts) = 0
width nil = 0
width (cons t ts) = suc (width ts)

unfoldable pub is_list : Tree → Bool
is_list (var v) = false
is_list (app f ts) = false
is_list nil = true
is_list (cons t ts) = true

-- a variable, or a symbol of the system with as many terms as its arity; of a list, each of its elements
unfoldable pub well : System → Tree → Bool
well p (var v) = true
well p (app f ts) = (ltb f (length p.arities) && eqb (width ts) (get_or p.arities f 0)) && (is_list ts && well p ts)
well p nil = true
well p (cons t ts) = (not (is_list t) && well p t) && (is_list ts && well p ts)

unfoldable pub is_term : System → Tree → Bool
is_term p t = not (is_list t) && well p t

-- a substitution (document 01: a filling) puts one term for each variable
abbrev pub Substitution : Type 0
Substitution = ℕ → Tree

unfoldable pub substituted : Substitution → Tree → Tree
substituted s (var v) = s v
substituted s (app f ts) = app f (substituted s ts)
substituted s nil = nil
substituted s (cons t ts) = cons (substituted s t) (substituted s ts)

-- every variable gets a term over the system
unfoldable pub Over : System → Substitution → Type 0
Over p s = (v : ℕ) → is_term p (s v) ≡ true

abbrev pub no_rule : Rule
no_rule = record { left = nil; right = nil }

unfoldable pub rule : System → ℕ → Rule
rule p i = get_or p.rules i no_rule
