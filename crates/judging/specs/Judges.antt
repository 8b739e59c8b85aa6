-- What a certificate is judged by: which arcs there are, and which rules count in a component. The documents have one judge,
-- `plain`.
use Rattle.std.specs.Prelude.{Bool, List}
use Rattle.rewriting.specs.Terms.{System, Rule}
use Rattle.rewriting.specs.Pairs.{Pair}
use Rattle.pairs.specs.Arcs.{arc, reach_arc}
use Rattle.certificates.specs.Components.{Component}

pub record Judge : Type 0 where
  pub arcs : Pair → Pair → Bool
  pub rules : Component → List Rule

-- the documents': arcs by unifier, and every rule in every component
unfoldable pub plain : System → Judge
plain p = record { arcs = arc p; rules = λ c. p.rules }

-- the same with document 01's arcs, which ask for less: only to say that what passed by them still passes
unfoldable pub reaching : System → Judge
reaching p = record { arcs = reach_arc p; rules = λ c. p.rules }
