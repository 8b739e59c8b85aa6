-- The tests of one rule and of one call, in values over all naturals.
use mathlib.Core.Path.{◌≡◌}
use mathlib.Core.Bool.{Bool, true, false, not, ◌||◌}
use mathlib.Core.Logic.{◌↔◌}
use Prim.Native.Nat.{ℕ, ◌≤◌, ◌<◌}
use lib.ListN.{length}
use borrow.Author.Tests.{not-false}
use Rattle.rewriting.specs.Terms.{Rule}
use Rattle.rewriting.specs.Systems.{variables_below}
use Rattle.rewriting.proofs.Basics.{or_left_false, or_right_false, or_both_false}
use Rattle.polynomials.specs.Polynomials.{Weighting, Polynomial, at_least, greater}
use Rattle.polynomials.specs.Values.{Valuation, value, marked_value, value_of}
use Rattle.polynomials.specs.Limit.{NodesWithin, SideWithin}
use Rattle.polynomials.specs.Judging.{Call, rule_over, rule_rises, call_over, call_rises, call_falls}
use Rattle.polynomials.proofs.Small.{SmallTerm}
use Rattle.polynomials.proofs.Order.{least_means, greater_means}
use Rattle.polynomials.proofs.Meaning.{sixteen, marked_sixteen, value_means, marked_means}
use Rattle.polynomials.proofs.LimitMeans.{over_means, marked_over_means}

-- both parts pass
both_within : (a b : Bool) {A B : Type 0} → (a ≡ false) ↔ A → (b ≡ false) ↔ B → (a || b ≡ false) ↔ (A × B)
both_within a b k l = (λ h. (k.0 (or_left_false a b h), l.0 (or_right_false a b h)), λ h. or_both_false (k.1 h.0) (l.1 h.1))

-- two polynomials, and what has their values
module _
    (x y : Polynomial) (m : length x.coefficients ≡ 16) (n : length y.coefficients ≡ 16) (f g : Valuation → ℕ)
    (fx : (a : Valuation) → f a ≡ value_of x a) (gy : (a : Valuation) → g a ≡ value_of y a) where
  least_values : (not (at_least x y) ≡ false) ↔ ((a : Valuation) → g a ≤ f a)
  least_values =
      (λ h. simp (fx, gy) ((least_means x y m n).0 (not-false (at_least x y) h)), λ h. rw ((least_means x y m n).1 (simp (fx, gy) at h)))

  greater_values : (greater x y ≡ true) ↔ ((a : Valuation) → g a < f a)
  greater_values = simp (fx, gy) (greater_means x y m n)

module _ (w : Weighting) (r : Rule) where
  pub rule_within : (rule_over w r ≡ false) ↔ (NodesWithin w.weights r.left × NodesWithin w.weights r.right)
  unfolding rule_over
  rule_within =
      both_within _ _ (over_means w.weights r.left) (over_means w.weights r.right)

  -- it does not rise exactly if the left's value is at least the right's
  pub rule_kept :
      SmallTerm r.left → SmallTerm r.right →
      (rule_rises w r ≡ false) ↔ ((a : Valuation) → value w.weights a r.right ≤ value w.weights a r.left)
  unfolding rule_rises
  rule_kept left right =
      least_values _ _ (sixteen w.weights r.left) (sixteen w.weights r.right) _ _
      (λ a. value_means w.weights r.left a left.term left.small)
      (λ a. value_means w.weights r.right a right.term right.small)

module _ (w : Weighting) (c : Call) where
  pub call_within : (call_over w c ≡ false) ↔ (SideWithin w c.left × SideWithin w c.right)
  unfolding call_over
  call_within = both_within _ _ (marked_over_means w c.left) (marked_over_means w c.right)

  module _ (left : variables_below 16 c.left ≡ true) (right : variables_below 16 c.right ≡ true) where
    -- it does not rise exactly if the left's value is at least the right's
    pub call_kept : (call_rises w c ≡ false) ↔ ((a : Valuation) → marked_value w a c.right ≤ marked_value w a c.left)
    unfolding call_rises
    call_kept =
        least_values _ _ (marked_sixteen w c.left) (marked_sixteen w c.right) _ _
        (λ a. marked_means w c.left a left)
        (λ a. marked_means w c.right a right)

    -- it falls exactly if the left's value is greater than the right's
    pub call_less : (call_falls w c ≡ true) ↔ ((a : Valuation) → marked_value w a c.right < marked_value w a c.left)
    unfolding call_falls
    call_less =
        greater_values _ _ (marked_sixteen w c.left) (marked_sixteen w c.right) _ _
        (λ a. marked_means w c.left a left)
        (λ a. marked_means w c.right a right)
