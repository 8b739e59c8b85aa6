-- Innermost rewriting, and derivations with the count of their steps.
use Rattle.std.specs.Prelude.{ℕ, suc}
use Rattle.rewriting.specs.Terms.{Tree, System, rule, substituted}
use Rattle.rewriting.specs.Steps.{Strategy, full, Step}
use Rattle.rewriting.specs.Pairs.{arguments}

-- a normal form: no step leads from it
unfoldable pub Normal : System → Tree → Type 0
Normal p t = (u : Tree) → Step p full t u → ⊥

-- a redex is contracted only where no step leads from below it
unfoldable pub innermost : System → Strategy
innermost p i s = Normal p (substituted s (arguments (rule p i).left))

-- so many steps of a relation, one after the other
pub data Derivation {A : Type 0} (R : A → A → Type 0) : (steps : ℕ) → A → A → Type 0 where
  no_step : (t : A) → Derivation R 0 t t
  one_more : (k : ℕ) (t u w : A) → R t u → Derivation R k u w → Derivation R (suc k) t w
