-- Contexts: a term with one place left open.
use Rattle.std.specs.Prelude.{◌≡◌, List, [], ◌∷◌, ◌++◌, ℕ, ◌<◌, length}
use Rattle.rewriting.specs.Terms.{Tree, app, nil, cons, System, rule, Substitution, substituted, Over}

-- the place itself, or a symbol over arguments of which one has it
pub data Context : Type 0 where
  hole : Context
  inside : ℕ → (before : List Tree) → Context → (after : List Tree) → Context

unfoldable pub argument_list : List Tree → Tree
argument_list [] = nil
argument_list (t ∷ ts) = cons t (argument_list ts)

-- the term with t at that place
unfoldable pub plugged : Context → Tree → Tree
plugged hole t = t
plugged (inside f before c after) t = app f (argument_list (before ++ (plugged c t ∷ after)))

-- some rule's left side stands at one place of t under some substitution, and u has its right side there under the same
pub record Contracts (p : System) (t u : Tree) : Type 0 where
  pub context : Context
  pub number : ℕ
  pub in_range : number < length p.rules
  pub by : Substitution
  pub over : Over p by
  pub from : t ≡ plugged context (substituted by (rule p number).left)
  pub to : u ≡ plugged context (substituted by (rule p number).right)
