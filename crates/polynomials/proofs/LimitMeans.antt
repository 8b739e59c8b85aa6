-- The tests of the limit pass exactly if every constant and coefficient of every node's polynomial is at most the limit.
use mathlib.Core.Path.{◌≡◌, refl}
use mathlib.Core.Bool.{false}
use mathlib.Core.Logic.{◌↔◌}
use mathlib.Core.List.{List, [], ◌∷◌}
use Prim.Native.Nat.{ℕ, zero, suc, ◌≤◌, ◌<◌}
use native.Mathlib.Omega.{arith}
use lib.Dec.{ltb}
use lib.ListN.{length, get_or, set}
use borrow.Author.Tests.{ltb-false, le-ltb}
use Rattle.rewriting.specs.Terms.{Tree, var, app, nil, cons}
use Rattle.rewriting.specs.Pairs.{subterms, arguments}
use Rattle.rewriting.proofs.Basics.{ors, or_right_false, or_both_false, Each, each_nil, each_cons, each_head, each_tail, each_append, each_left, each_right, each_at, each_by}
use Rattle.polynomials.specs.Polynomials.{Weight, Weighting, Polynomial, polynomial, no_coefficients, polynomials, first, polynomial_of, marked_polynomial}
use Rattle.polynomials.specs.Limit.{limit, any_above, over_limit, over, marked_over, Within, NodesWithin, SideWithin}

-- ONE POLYNOMIAL

pub below_limit : (xs : List ℕ) → any_above xs ≡ false → (v : ℕ) → v < length xs → get_or xs v 0 ≤ limit
unfolding any_above
below_limit [] h v k = absurd (omega arith)
below_limit (x ∷ xs) h zero k = ltb-false limit x (search ors)
below_limit (x ∷ xs) h (suc v) k = below_limit xs (search ors) v (omega arith)

pub none_above : (xs : List ℕ) → ((v : ℕ) → v < length xs → get_or xs v 0 ≤ limit) → any_above xs ≡ false
unfolding any_above
none_above [] h = refl
none_above (x ∷ xs) h = or_both_false (le-ltb limit x (h 0 (omega arith))) (none_above xs (λ v k. h (suc v) (omega arith)))

pub within : (x : Polynomial) → over_limit x ≡ false → Within x
unfolding over_limit
within x h =
    record {
      constant_within = ltb-false limit x.constant (search ors);
      coefficients_within = below_limit x.coefficients (search ors);
    }

pub not_over : (x : Polynomial) → Within x → over_limit x ≡ false
unfolding over_limit
not_over x h = or_both_false (le-ltb limit x.constant h.constant_within) (none_above x.coefficients h.coefficients_within)

-- EVERY NODE

abbrev NodeWithin : List Weight → Tree → Type 0
NodeWithin ws u = Within (polynomial_of ws u)

set_above : (xs : List ℕ) (v : ℕ) → any_above xs ≡ false → any_above (set xs v 1) ≡ false
unfolding any_above limit
set_above [] v h = refl
set_above (x ∷ xs) zero h = search ors
set_above (x ∷ xs) (suc v) h =
    let first : ltb limit x ≡ false = search ors in
    or_both_false first (set_above xs v (search ors))

-- a variable's coefficients are 0 and 1
pub variable_within : (v : ℕ) → over_limit (polynomial 0 (set no_coefficients v 1)) ≡ false
unfolding over_limit any_above limit
variable_within v = set_above no_coefficients v refl

over_each : (ws : List Weight) (t : Tree) → over ws t ≡ false → Each (NodeWithin ws) (subterms t)
unfolding over subterms polynomials polynomial_of first
over_each ws (var v) h = each_cons _ [] (within _ (variable_within v)) each_nil
over_each ws (app f ts) h = each_cons _ _ (within _ (or_right_false (over ws ts) _ h)) (over_each ws ts (search ors))
over_each ws nil h = each_nil
over_each ws (cons t ts) h =
    each_append (over_each ws t (search ors)) (over_each ws ts (search ors))

each_over : (ws : List Weight) (t : Tree) → Each (NodeWithin ws) (subterms t) → over ws t ≡ false
unfolding over subterms polynomials polynomial_of first
each_over ws (var v) h = refl
each_over ws (app f ts) h = or_both_false (each_over ws ts (each_tail h)) (not_over _ (each_head h))
each_over ws nil h = refl
each_over ws (cons t ts) h =
    or_both_false (each_over ws t (each_left (subterms t) (subterms ts) h)) (each_over ws ts (each_right (subterms t) (subterms ts) h))

-- of a term or a list of terms
pub over_means : (ws : List Weight) (t : Tree) → (over ws t ≡ false) ↔ NodesWithin ws t
unfolding NodesWithin
over_means ws t = (λ h. each_at nil (over_each ws t h), λ h. each_over ws t (each_by nil (subterms t) h))

-- of a pair's side
pub marked_over_means : (w : Weighting) (t : Tree) → (marked_over w t ≡ false) ↔ SideWithin w t
unfolding marked_over
marked_over_means w t = (
  λ h.
      record {
        root_within = within (marked_polynomial w t) (search ors);
        below_within = (over_means w.weights (arguments t)).0 (search ors);
      },
  λ h. or_both_false ((over_means w.weights (arguments t)).1 h.below_within) (not_over (marked_polynomial w t) h.root_within),
)
