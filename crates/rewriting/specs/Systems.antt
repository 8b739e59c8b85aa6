-- Good systems: what the theory of rewriting asks of a pack and, for the polynomials, variables below 16. A pack that passes 1 to 6 is one.
use Rattle.std.specs.Prelude.{◌≡◌, Bool, true, false, ◌&&◌, ◌||◌, List, [], ◌∷◌, ◌++◌, ℕ, ◌<◌, ltb, eqb, length}
use Rattle.rewriting.specs.Terms.{Tree, var, app, nil, cons, Rule, System, rule, is_term}

unfoldable pub is_app : Tree → Bool
is_app (var v) = false
is_app (app f ts) = true
is_app nil = false
is_app (cons t ts) = false

-- the variables of a tree from left to right, each as often as it stands there
unfoldable pub variables : Tree → List ℕ
variables (var v) = v ∷ []
variables (app f ts) = variables ts
variables nil = []
variables (cons t ts) = variables t ++ variables ts

unfoldable pub member : ℕ → List ℕ → Bool
member v [] = false
member v (x ∷ xs) = eqb x v || member v xs

unfoldable pub all_in : List ℕ → List ℕ → Bool
all_in [] ys = true
all_in (x ∷ xs) ys = member x ys && all_in xs ys

-- every variable's number is below a bound
unfoldable pub variables_below : ℕ → Tree → Bool
variables_below n (var v) = ltb v n
variables_below n (app f ts) = variables_below n ts
variables_below n nil = true
variables_below n (cons t ts) = variables_below n t && variables_below n ts

pub record GoodRule (p : System) (r : Rule) : Type 0 where
  pub left_applied : is_app r.left ≡ true
  pub left_term : is_term p r.left ≡ true
  pub right_term : is_term p r.right ≡ true
  pub left_small : variables_below 16 r.left ≡ true
  pub right_small : variables_below 16 r.right ≡ true
  pub no_new : all_in (variables r.right) (variables r.left) ≡ true

unfoldable pub Good : System → Type 0
Good p = (i : ℕ) → i < length p.rules → GoodRule p (rule p i)
