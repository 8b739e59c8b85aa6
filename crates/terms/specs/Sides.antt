-- A side is its nodes in prefix order.
use Rattle.std.specs.Prelude.{List, [], ◌∷◌, ◌++◌, ℕ, zero, suc, length, get_or}
use Rattle.std.proofs.Math.Option.{Option, none, some}
use Rattle.rewriting.specs.Terms.{Tree, var, app, nil, cons}

pub data Node : Type 0 where
  variable : ℕ → Node
  symbol : ℕ → Node

-- the nodes of a term, and of a list of arguments
unfoldable pub flat : Tree → List Node
flat (var v) = variable v ∷ []
flat (app f ts) = symbol f ∷ flat ts
flat nil = []
flat (cons t ts) = flat t ++ flat ts

-- what reading a term, or a list of arguments, from the front of the nodes comes to: the tree, and the nodes after it
pub data Parsed : Type 0 where
  failed : Parsed
  parsed : Tree → List Node → Parsed

unfoldable pub applied : ℕ → Parsed → Parsed
applied f failed = failed
applied f (parsed ts ns) = parsed (app f ts) ns

unfoldable pub with_first : Tree → Parsed → Parsed
with_first t failed = failed
with_first t (parsed ts ns) = parsed (cons t ts) ns

unfoldable pub and_others : Parsed → (List Node → Parsed) → Parsed
and_others failed others = failed
and_others (parsed t ns) others = with_first t (others ns)

-- so many terms from the front, each by the reader given
unfoldable pub parse_all : (List Node → Parsed) → (count : ℕ) → List Node → Parsed
parse_all one zero ns = parsed nil ns
parse_all one (suc n) ns = and_others (one ns) (λ rest. parse_all one n rest)

-- one term from the front; no term is deeper than the nodes that it has, so their count is depth enough
unfoldable pub parse : (depth : ℕ) → (arities : List ℕ) → List Node → Parsed
parse zero ar ns = failed
parse (suc k) ar [] = failed
parse (suc k) ar (variable v ∷ ns) = parsed (var v) ns
parse (suc k) ar (symbol f ∷ ns) = applied f (parse_all (parse k ar) (get_or ar f 0) ns)

unfoldable pub whole : Parsed → Option Tree
whole failed = none
whole (parsed t []) = some t
whole (parsed t (x ∷ ns)) = none

-- the nodes are exactly one term
unfoldable pub side : (arities : List ℕ) → List Node → Option Tree
side ar ns = whole (parse (length ns) ar ns)
