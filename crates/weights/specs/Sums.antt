-- The sums in which the code adds up a polynomial: seventeen numbers, the constant first and then the coefficients.
use Rattle.std.specs.Prelude.{◌≡◌, Bool, false, ◌||◌, cond, List, ◌∷◌, ℕ, ◌+◌, ltb, length, get_or}
use Rattle.polynomials.specs.Polynomials.{Polynomial}
use Rattle.polynomials.specs.Limit.{limit, any_above}

abbrev pub numbers : Polynomial → List ℕ
numbers x = x.constant ∷ x.coefficients

-- within the limit
pub record Sums (sums : List ℕ) : Type 0 where
  pub long : length sums ≡ 17
  pub within : any_above sums ≡ false

-- what was added has come to: the first sum is past the limit exactly if something passed it; if nothing did, the sums are as they should be
pub record AddsTo (passed : Bool) (should after : List ℕ) : Type 0 where
  pub long : length after ≡ 17
  pub told : ltb limit (get_or after 0 0) ≡ (passed || any_above should)
  pub are : ltb limit (get_or after 0 0) ≡ false → after ≡ should

-- a term's polynomial x alone: the first sum is past the limit exactly if a node of the term passed it; else the sums are x
pub record Summed (passed : Bool) (x : Polynomial) (sums : List ℕ) : Type 0 where
  pub long : length sums ≡ 17
  pub told : ltb limit (get_or sums 0 0) ≡ passed
  pub are : passed ≡ false → sums ≡ numbers x

-- a factor, or the number after the limit if it is past that
unfoldable pub capped : ℕ → ℕ
capped k = cond (ltb limit k) (limit + 1) k

-- more than a factor times a weight: room for a higher limit too
abbrev pub most_part : ℕ
most_part = 72057594037927936
