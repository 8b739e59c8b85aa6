-- Rewrite steps and derivations, under a strategy.
use Rattle.std.specs.Prelude.{◌≡◌, ℕ, ◌<◌, length}
use Rattle.rewriting.specs.Terms.{Tree, app, cons, System, rule, Substitution, substituted, Over}

-- which redexes may be contracted: a rule's number and the substitution under which its left side stands there
abbrev pub Strategy : Type 1
Strategy = ℕ → Substitution → Type 0

-- every redex: the rewriting of document 01
abbrev pub full : Strategy
full i s = Unit {0}

-- a rule's left side under a substitution becomes its right side under the same
pub record RootStep (p : System) (m : Strategy) (t u : Tree) : Type 0 where
  pub at : ℕ
  pub by : Substitution
  pub in_range : at < length p.rules
  pub over : Over p by
  pub allowed : m at by
  pub from : t ≡ substituted by (rule p at).left
  pub to : u ≡ substituted by (rule p at).right

-- the same at any one place, the rest of the term staying as it is
pub data InContext (R : Tree → Tree → Type 0) : Tree → Tree → Type 0 where
  here : (t u : Tree) → R t u → InContext R t u
  under : (f : ℕ) (ts us : Tree) → InContext R ts us → InContext R (app f ts) (app f us)
  in_first : (t u ts : Tree) → InContext R t u → InContext R (cons t ts) (cons u ts)
  in_others : (t ts us : Tree) → InContext R ts us → InContext R (cons t ts) (cons t us)

-- a rewrite step (document 01: a step)
abbrev pub Step : System → Strategy → Tree → Tree → Type 0
Step p m = InContext (RootStep p m)

-- zero or more steps of a relation, one after the other: a finite derivation
pub data Steps {A : Type 0} (R : A → A → Type 0) : A → A → Type 0 where
  stay : (t : A) → Steps R t t
  move : (t u w : A) → R t u → Steps R u w → Steps R t w
