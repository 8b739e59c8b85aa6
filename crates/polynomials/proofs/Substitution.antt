-- The value of a term under a substitution: the variables take the values of what is put for them.
use mathlib.Core.Path.{◌≡◌, refl}
use mathlib.Core.Bool.{false, true≢false}
use mathlib.Core.List.{List, [], ◌∷◌}
use Rattle.rewriting.specs.Terms.{Tree, var, app, nil, cons, System, is_list, Substitution, substituted, Over}
use Rattle.rewriting.proofs.Trees.{term_not_list}
use Rattle.polynomials.specs.Polynomials.{Weight}
use Rattle.polynomials.specs.Values.{Valuation, term_values, first_value, value}

-- a term has one value
pub one_value : (ws : List Weight) (a : Valuation) (t : Tree) → is_list t ≡ false → term_values ws a t ≡ value ws a t ∷ []
unfolding term_values first_value value is_list
one_value ws a (var v) h = refl
one_value ws a (app f ts) h = refl
one_value ws a nil h = absurd (true≢false h)
one_value ws a (cons t ts) h = absurd (true≢false h)

-- what a substitution makes of a valuation
abbrev pub valuation : List Weight → Valuation → Substitution → Valuation
valuation ws a s v = value ws a (s v)

-- values after substituting are values under that valuation
pub substituted_values :
    (p : System) (ws : List Weight) (a : Valuation) (s : Substitution) → Over p s → (t : Tree) →
    term_values ws a (substituted s t) ≡ term_values ws (valuation ws a s) t
unfolding term_values substituted Over
substituted_values p ws a s over (var v) = one_value ws a (s v) (term_not_list p (s v) (over v))
substituted_values p ws a s over (app f ts) = rw (substituted_values p ws a s over ts)
substituted_values p ws a s over nil = refl
substituted_values p ws a s over (cons t ts) = rw (substituted_values p ws a s over t, substituted_values p ws a s over ts)
