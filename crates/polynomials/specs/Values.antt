-- What weights mean: the value of a term over the naturals, from values of its variables.
use Rattle.std.specs.Prelude.{List, [], ◌∷◌, ◌++◌, ℕ, suc, ◌+◌, ◌*◌}
use Rattle.rewriting.specs.Terms.{Tree, var, app, nil, cons}
use Rattle.polynomials.specs.Polynomials.{Weight, Weighting, weight, Polynomial}

abbrev pub Valuation : Type 0
Valuation = ℕ → ℕ

-- weight i times argument i, from argument i on
unfoldable pub weighed : List Weight → (symbol i : ℕ) → List ℕ → ℕ
weighed ws f i [] = 0
weighed ws f i (v ∷ vs) = weight ws f i * v + weighed ws f (suc i) vs

-- one value for a term, one for each term of a list
unfoldable pub term_values : List Weight → Valuation → Tree → List ℕ
term_values ws a (var v) = a v ∷ []
term_values ws a (app f ts) = (weight ws f 0 + weighed ws f 1 (term_values ws a ts)) ∷ []
term_values ws a nil = []
term_values ws a (cons t ts) = term_values ws a t ++ term_values ws a ts

unfoldable pub first_value : List ℕ → ℕ
first_value [] = 0
first_value (v ∷ vs) = v

unfoldable pub value : List Weight → Valuation → Tree → ℕ
value ws a t = first_value (term_values ws a t)

-- the value of a pair's side: its tuple symbol by the marked weights, what is below by the others
unfoldable pub marked_value : Weighting → Valuation → Tree → ℕ
marked_value w a (var v) = 0
marked_value w a (app f ts) = weight w.marked f 0 + weighed w.marked f 1 (term_values w.weights a ts)
marked_value w a nil = 0
marked_value w a (cons t ts) = 0

-- the value of a polynomial: of its coefficients, the first belonging to variable v
unfoldable pub total : List ℕ → (v : ℕ) → Valuation → ℕ
total [] v a = 0
total (c ∷ cs) v a = c * a v + total cs (suc v) a

unfoldable pub value_of : Polynomial → Valuation → ℕ
value_of x a = x.constant + total x.coefficients 0 a
