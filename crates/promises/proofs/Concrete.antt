-- There are terms, rewrite steps and chains: Division's minus.
use mathlib.Core.Path.{◌≡◌, refl}
use mathlib.Core.Bool.{true}
use native.Mathlib.Omega.{arith}
use Rattle.rewriting.specs.Terms.{Tree, is_term, well, width, is_list, Substitution, Over}
use Rattle.rewriting.specs.Steps.{full, Step, here, stay}
use Rattle.rewriting.specs.Chains.{Link, Valid, Next}
use Rattle.pairs.specs.Listing.{a_pair}
use Rattle.promises.specs.Examples.{division, constant, app₁, app₂}
use Rattle.promises.proofs.Computed.{computed}

abbrev all : Tree → Substitution
all t v = t

zero_over : Over division (all (constant 0))
unfolding computed Over is_term well width is_list
zero_over v = refl

one_over : Over division (all (app₁ 1 (constant 0)))
unfolding computed Over is_term well width is_list
one_over v = refl

pub minus_term : is_term division (app₂ 2 (constant 0) (constant 0)) ≡ true
unfolding computed is_term well width is_list
minus_term = refl

-- minus(x, zero) → x at x = zero
pub minus_step : Step division full (app₂ 2 (constant 0) (constant 0)) (constant 0)
unfolding computed
minus_step =
    here _ _ (record { at = 0; by = all (constant 0); in_range = omega arith; over = zero_over; allowed = tt; from = refl; to = refl })

-- minus(s(x), s(y)) → minus(x, y) at x = y = s(zero), and again at x = y = zero
abbrev link : Tree → Link
link t = record { pair = a_pair 1 0; by = all t }

pub first_valid : Valid division full (link (app₁ 1 (constant 0)))
unfolding computed
first_valid = record { is = refl; over = one_over; allowed = tt }

pub minus_follows : Next division full (link (app₁ 1 (constant 0))) (link (constant 0))
unfolding computed
minus_follows = record { valid = record { is = refl; over = zero_over; allowed = tt }; roots = refl; derives = stay _ }
