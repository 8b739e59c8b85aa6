-- How the code keeps terms: a byte a node, in prefix order.
use Rattle.std.specs.Prelude.{◌≡◌, Bool, true, false, ◌&&◌, cond, List, [], ◌∷◌, map, ℕ, zero, suc, ◌+◌, ◌-◌, ◌≤◌, ltb, length, get_or, take, drop}
use Rattle.rewriting.specs.Terms.{Tree, System, is_term}
use Rattle.terms.specs.Sides.{Node, variable, symbol, flat}

-- THE ROOM in which a pack is kept: a byte a symbol, where each side starts and the last one ends, a byte a node
abbrev pub symbols_room : ℕ
symbols_room = 64

abbrev pub starts_room : ℕ
starts_room = 129

abbrev pub nodes_room : ℕ
nodes_room = 4096

-- a node as a byte: a symbol's number, or 64 and a variable's number
unfoldable pub code : Node → ℕ
code (variable v) = 64 + v
code (symbol f) = f

unfoldable pub codes : List Node → List ℕ
codes ns = map code ns

-- symbols stand below the first variable's byte, so that a byte tells which it is
unfoldable pub symbols_below : List Node → Bool
symbols_below [] = true
symbols_below (variable v ∷ ns) = symbols_below ns
symbols_below (symbol f ∷ ns) = ltb f symbols_room && symbols_below ns

-- the nodes `ns` are kept from place a on
pub record Kept (nodes : List ℕ) (a : ℕ) (ns : List Node) : Type 0 where
  pub within : a + length ns ≤ length nodes
  pub are : take (length ns) (drop a nodes) ≡ codes ns

-- the nodes from one place up to another
unfoldable pub part : (nodes : List ℕ) → (from to : ℕ) → List ℕ
part ns a b = take (b - a) (drop a ns)

-- reading so many terms uses up the nodes
unfoldable pub code_arity : (arities : List ℕ) → ℕ → ℕ
code_arity ar c = cond (ltb c 64) (get_or ar c 0) 0

unfoldable pub balanced : (arities : List ℕ) → (wanted : ℕ) → (nodes : List ℕ) → Bool
balanced ar zero [] = true
balanced ar zero (c ∷ cs) = false
balanced ar (suc n) [] = false
balanced ar (suc n) (c ∷ cs) = balanced ar (n + code_arity ar c) cs

-- a term over some system is kept at a place
pub record TermAt (arities nodes : List ℕ) (at : ℕ) : Type 0 where
  pub system : System
  pub term : Tree
  pub arities_are : take (length system.arities) arities ≡ system.arities
  pub arities_few : length system.arities ≤ 64
  pub is : is_term system term ≡ true
  pub kept : Kept nodes at (flat term)
