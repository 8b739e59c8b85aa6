-- A certificate is a list of components.
use Rattle.std.specs.Prelude.{◌≡◌, true, List, [], ◌∷◌, ◌++◌, ℕ, zero, suc}
use Rattle.rewriting.specs.Pairs.{Pair}
use Rattle.records.specs.declared.Record.{Record}
use Rattle.records.specs.Rising.{rising}
use Rattle.polynomials.specs.Polynomials.{Weight, Weighting}

-- pairs, and the weightings under which they are judged, one after the other; there may be none
pub record Component : Type 0 where
  pub pairs : List Pair
  pub weightings : List Weighting

abbrev pub no_component : Component
no_component = record { pairs = []; weightings = [] }

abbrev pub no_weighting : Weighting
no_weighting = record { weights = []; marked = [] }

-- the weightings that a C record begins by itself, of so many: the first, if there is one
unfoldable pub first_weighting : (weightings : ℕ) → List Weighting
first_weighting zero = []
first_weighting (suc b) = no_weighting ∷ []

unfoldable pub with_pair : Component → Pair → Component
with_pair c q = record { pairs = c.pairs ++ (q ∷ []); weightings = c.weightings }

-- W and M records belong to the last weighting begun
unfoldable pub last_weighting : List Weighting → Weighting
last_weighting [] = no_weighting
last_weighting (w ∷ []) = w
last_weighting (w ∷ v ∷ ws) = last_weighting (v ∷ ws)

unfoldable pub on_last : (Weighting → Weighting) → List Weighting → List Weighting
on_last change [] = []
on_last change (w ∷ []) = change w ∷ []
on_last change (w ∷ v ∷ ws) = w ∷ on_last change (v ∷ ws)

unfoldable pub add_weight : Weight → Weighting → Weighting
add_weight x w = record { weights = w.weights ++ (x ∷ []); marked = w.marked }

unfoldable pub add_marked : Weight → Weighting → Weighting
add_marked x w = record { weights = w.weights; marked = w.marked ++ (x ∷ []) }

unfoldable pub with_weight : Component → Weight → Component
with_weight c x = record { pairs = c.pairs; weightings = on_last (add_weight x) c.weightings }

unfoldable pub with_marked : Component → Weight → Component
with_marked c x = record { pairs = c.pairs; weightings = on_last (add_marked x) c.weightings }

-- an L record begins the next one
unfoldable pub with_weighting : Component → Component
with_weighting c = record { pairs = c.pairs; weightings = c.weightings ++ (no_weighting ∷ []) }

-- a W or M record's weight
abbrev pub weight_of : Record → Weight
weight_of r = record { symbol = r.a; place = r.b; value = r.c }

-- P records of one component rise by rule and place, W and M records by symbol and place
abbrev pub PairsRise : List Pair → Type 0
PairsRise qs = rising (λ q. q.at_rule) (λ q. q.place) qs ≡ true

abbrev pub WeightsRise : List Weight → Type 0
WeightsRise ws = rising (λ w. w.symbol) (λ w. w.place) ws ≡ true
