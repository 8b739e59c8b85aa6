-- Defined symbols and dependency pairs.
use Rattle.std.specs.Prelude.{Bool, false, ◌&&◌, ◌||◌, List, [], ◌∷◌, ◌++◌, ℕ, ltb, eqb, length, get_or}
use Rattle.rewriting.specs.Terms.{Tree, var, app, nil, cons, Rule, System, rule}

-- the subterms of a term in prefix order: the one at place 0 is the term itself
unfoldable pub subterms : Tree → List Tree
subterms (var v) = var v ∷ []
subterms (app f ts) = app f ts ∷ subterms ts
subterms nil = []
subterms (cons t ts) = subterms t ++ subterms ts

unfoldable pub has_root : ℕ → Tree → Bool
has_root f (var v) = false
has_root f (app g ts) = eqb g f
has_root f nil = false
has_root f (cons t ts) = false

unfoldable pub same_root : Tree → Tree → Bool
same_root (var v) u = false
same_root (app f ts) u = has_root f u
same_root nil u = false
same_root (cons t ts) u = false

unfoldable pub arguments : Tree → Tree
arguments (var v) = nil
arguments (app f ts) = ts
arguments nil = nil
arguments (cons t ts) = nil

unfoldable pub defined_by : List Rule → ℕ → Bool
defined_by [] f = false
defined_by (r ∷ rs) f = has_root f r.left || defined_by rs f

-- a symbol is defined if it is the root of some left side, else a constructor
unfoldable pub defined : System → ℕ → Bool
defined p f = defined_by p.rules f

unfoldable pub defined_root : System → Tree → Bool
defined_root p (var v) = false
defined_root p (app f ts) = defined p f
defined_root p nil = false
defined_root p (cons t ts) = false

-- a dependency pair is named by a rule and a place of its right side
pub record Pair : Type 0 where
  pub at_rule : ℕ
  pub place : ℕ

-- Its sides. Their roots stand for the tuple symbols (document 01: marked symbols): a pair acts at the root only, and
-- nothing but `Next`, arcs and the weights of tuple symbols ever looks at it, so no second kind of term is needed.
unfoldable pub pair_left : System → Pair → Tree
pair_left p q = (rule p q.at_rule).left

unfoldable pub pair_right : System → Pair → Tree
pair_right p q = get_or (subterms (rule p q.at_rule).right) q.place nil

-- it exists if that place applies a defined symbol
unfoldable pub is_pair : System → Pair → Bool
is_pair p q =
    (ltb q.at_rule (length p.rules) && ltb q.place (length (subterms (rule p q.at_rule).right))) && defined_root p (pair_right p q)
