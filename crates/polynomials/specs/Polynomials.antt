-- The linear polynomial of a term under the weights of an interpretation, and the order of polynomials.
use Rattle.std.specs.Prelude.{Bool, true, ◌&&◌, cond, List, [], ◌∷◌, ◌++◌, ℕ, suc, ◌+◌, ◌*◌, ltb, leb, eqb, set, replicate}
use Rattle.rewriting.specs.Terms.{Tree, var, app, nil, cons}

-- a W or M record: a symbol, 0 for its constant or i for its argument i, and the value there
pub record Weight : Type 0 where
  pub symbol : ℕ
  pub place : ℕ
  pub value : ℕ

-- a linear interpretation (document 01: a weighting): weights of the symbols, and of the tuple symbols
pub record Weighting : Type 0 where
  pub weights : List Weight
  pub marked : List Weight

-- a weight not named is 0
unfoldable pub weight : List Weight → (symbol place : ℕ) → ℕ
weight [] f i = 0
weight (w ∷ ws) f i = cond (eqb w.symbol f && eqb w.place i) w.value (weight ws f i)

-- a linear polynomial (document 01: a form): a constant, and a coefficient for each of the variables 0 to 15
pub record Polynomial : Type 0 where
  pub constant : ℕ
  pub coefficients : List ℕ

abbrev pub polynomial : (constant : ℕ) → List ℕ → Polynomial
polynomial c xs = record { constant = c; coefficients = xs }

abbrev pub no_coefficients : List ℕ
no_coefficients = replicate 16 0

-- k times the first list, and the second
unfoldable pub scaled_sum : (k : ℕ) → List ℕ → List ℕ → List ℕ
scaled_sum k [] ys = ys
scaled_sum k (x ∷ xs) [] = []
scaled_sum k (x ∷ xs) (y ∷ ys) = (k * x + y) ∷ scaled_sum k xs ys

-- y, and the sum of weight i times argument i from argument i on
unfoldable pub summed : (i : ℕ) → List Weight → (symbol : ℕ) → List Polynomial → Polynomial → Polynomial
summed i ws f [] y = y
summed i ws f (x ∷ xs) y =
    let k = weight ws f i in
    summed (suc i) ws f xs (polynomial (y.constant + k * x.constant) (scaled_sum k x.coefficients y.coefficients))

-- a symbol stands for constant + the sum of weight i times argument i
unfoldable pub combined : List Weight → (symbol : ℕ) → (arguments : List Polynomial) → Polynomial
combined ws f xs = summed 1 ws f xs (polynomial (weight ws f 0) no_coefficients)

-- worked out from the polynomials of the arguments; one polynomial for a term, one for each term of a list
unfoldable pub polynomials : List Weight → Tree → List Polynomial
polynomials ws (var v) = polynomial 0 (set no_coefficients v 1) ∷ []
polynomials ws (app f ts) = combined ws f (polynomials ws ts) ∷ []
polynomials ws nil = []
polynomials ws (cons t ts) = polynomials ws t ++ polynomials ws ts

unfoldable pub first : List Polynomial → Polynomial
first [] = polynomial 0 no_coefficients
first (x ∷ xs) = x

unfoldable pub polynomial_of : List Weight → Tree → Polynomial
polynomial_of ws t = first (polynomials ws t)

-- a pair's side: its tuple symbol by the marked weights, what is below by the others
unfoldable pub marked_polynomial : Weighting → Tree → Polynomial
marked_polynomial w (var v) = polynomial 0 no_coefficients
marked_polynomial w (app f ts) = combined w.marked f (polynomials w.weights ts)
marked_polynomial w nil = polynomial 0 no_coefficients
marked_polynomial w (cons t ts) = polynomial 0 no_coefficients

-- THE ORDER
unfoldable pub each_at_least : List ℕ → List ℕ → Bool
each_at_least [] ys = true
each_at_least (x ∷ xs) [] = true
each_at_least (x ∷ xs) (y ∷ ys) = leb y x && each_at_least xs ys

-- at least exactly if its constant and each coefficient are
unfoldable pub at_least : Polynomial → Polynomial → Bool
at_least x y = leb y.constant x.constant && each_at_least x.coefficients y.coefficients

-- greater exactly if besides its constant is greater
unfoldable pub greater : Polynomial → Polynomial → Bool
greater x y = ltb y.constant x.constant && each_at_least x.coefficients y.coefficients
