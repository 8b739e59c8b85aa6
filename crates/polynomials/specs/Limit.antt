-- The limit: every constant and coefficient of every node's polynomial, nodes under a weight 0 included.
use Rattle.std.specs.Prelude.{Bool, false, ◌||◌, List, [], ◌∷◌, ℕ, ◌≤◌, ◌<◌, ltb, length, get_or}
use Rattle.rewriting.specs.Terms.{Tree, var, app, nil, cons}
use Rattle.rewriting.specs.Pairs.{subterms, arguments}
use Rattle.polynomials.specs.Polynomials.{Weight, Weighting, Polynomial, combined, polynomials, polynomial_of, marked_polynomial}

unfoldable pub limit : ℕ
limit = 4294967295

unfoldable pub any_above : List ℕ → Bool
any_above [] = false
any_above (x ∷ xs) = ltb limit x || any_above xs

-- a polynomial passes the limit (document 01: heavy)
unfoldable pub over_limit : Polynomial → Bool
over_limit x = ltb limit x.constant || any_above x.coefficients

-- some node's polynomial does
unfoldable pub over : List Weight → Tree → Bool
over ws (var v) = false
over ws (app f ts) = over ws ts || over_limit (combined ws f (polynomials ws ts))
over ws nil = false
over ws (cons t ts) = over ws t || over ws ts

-- the same of a pair's side, its root being a tuple symbol
unfoldable pub marked_over : Weighting → Tree → Bool
marked_over w t = over w.weights (arguments t) || over_limit (marked_polynomial w t)

-- WHAT THE TESTS MEAN: every constant and coefficient is at most the limit
pub record Within (x : Polynomial) : Type 0 where
  pub constant_within : x.constant ≤ limit
  pub coefficients_within : (v : ℕ) → v < length x.coefficients → get_or x.coefficients v 0 ≤ limit

-- of every node of a term, or of an argument list
unfoldable pub NodesWithin : List Weight → Tree → Type 0
NodesWithin ws t = (k : ℕ) → k < length (subterms t) → Within (polynomial_of ws (get_or (subterms t) k nil))

-- of every node of a pair's side
pub record SideWithin (w : Weighting) (t : Tree) : Type 0 where
  pub root_within : Within (marked_polynomial w t)
  pub below_within : NodesWithin w.weights (arguments t)
