-- How the code works out polynomials, over terms and weights as it keeps them. The contracts between our own functions speak
-- of it; no promise to a user does.
use Rattle.std.specs.Prelude.{◌≡◌, Bool, true, false, ◌||◌, cond, List, ℕ, ◌≤◌, ◌<◌, length, get_or, set, take}
use Rattle.rewriting.specs.Terms.{Tree, var, app, nil, cons, System, is_term}
use Rattle.rewriting.specs.Pairs.{arguments}
use Rattle.rewriting.specs.Systems.{is_app, variables_below}
use Rattle.terms.specs.Sides.{flat}
use Rattle.terms.specs.Kept.{Kept}
use Rattle.weights.specs.declared.Verdict.{Verdict}
use Rattle.weights.specs.declared.Verdict.TheVariants.{Over, Fails, Holds}
use Rattle.weights.specs.declared.PairVerdict.{PairVerdict}
use Rattle.weights.specs.declared.PairVerdict.TheVariants.{Over as PairOver, Rises, Stays, Falls}
use Rattle.polynomials.specs.Polynomials.{Polynomial, Weight, polynomial, no_coefficients, combined, polynomials}
use Rattle.polynomials.specs.Limit.{over, over_limit}
use Rattle.weights.specs.Table.{TableIs, MarkedIs}
use Rattle.weights.specs.Sums.{Summed}

-- a term over some system is kept at a place, with at most `left` nodes
pub record Weighable (arities nodes : List ℕ) (at left : ℕ) : Type 0 where
  pub system : System
  pub term : Tree
  pub arities_are : take (length system.arities) arities ≡ system.arities
  pub arities_few : length system.arities ≤ 64
  pub arities_small : (f : ℕ) → f < length system.arities → get_or system.arities f 0 ≤ 8
  pub is : is_term system term ≡ true
  pub small : variables_below 16 term ≡ true
  pub kept : Kept nodes at (flat term)
  pub fits : length (flat term) ≤ left

-- the same of a term that is an application, as both sides of a pair are
pub record Applied (arities nodes : List ℕ) (at left : ℕ) : Type 0 where
  pub side : Weighable arities nodes at left
  pub applied : is_app side.term ≡ true

-- the polynomial of a term whose root is weighed by `root` and what is below it by `ws`: a plain side if both are the same,
-- a pair's side if `root` are the weights of the tuple symbols
unfoldable pub rooted : (root ws : List Weight) → Tree → Polynomial
rooted root ws (var v) = polynomial 0 (set no_coefficients v 1)
rooted root ws (app f ts) = combined root f (polynomials ws ts)
rooted root ws nil = polynomial 0 no_coefficients
rooted root ws (cons t ts) = polynomial 0 no_coefficients

unfoldable pub rooted_over : (root ws : List Weight) → Tree → Bool
rooted_over root ws (var v) = false
rooted_over root ws (app f ts) = over ws ts || over_limit (combined root f (polynomials ws ts))
rooted_over root ws nil = false
rooted_over root ws (cons t ts) = false

-- what is known of a term where the limit is not asked below a weight 0: its arguments are within it, and the term too where it
-- stands under a weight 0 itself
pub record KnownWithin (skips : Bool) (factor : ℕ) (root ws : List Weight) (t : Tree) : Type 0 where
  pub below : skips ≡ true → over ws (arguments t) ≡ false
  pub itself : skips ≡ true → factor ≡ 0 → rooted_over root ws t ≡ false

-- the sums are those of the pair's side kept at `at`
unfoldable pub SideSummed : (arities nodes table : List ℕ) (at left : ℕ) → (skips : Bool) → (sums : List ℕ) → Type 0
SideSummed arities nodes table at left skips sums =
    (w : Applied arities nodes at left) (ws ms : List Weight) → TableIs table ws → MarkedIs table ms →
    (skips ≡ true → over ws (arguments w.side.term) ≡ false) →
    Summed (rooted_over ms ws w.side.term) (rooted ms ws w.side.term) sums

-- what rules are found to be: over the limit, or that their sides compare as they must, or not
unfoldable pub verdict : (passes holds : Bool) → Verdict
verdict passes holds = cond passes Over (cond holds Holds Fails)

-- what a pair is found to be: over the limit, or that its left is not at least its right, or greater, or neither
unfoldable pub pair_verdict : (passes rises falls : Bool) → PairVerdict
pair_verdict passes rises falls = cond passes PairOver (cond rises Rises (cond falls Falls Stays))
