-- The polynomial of a kept term, argument by argument: what the sums come to together with the arguments that are still to be
-- weighed.
use mathlib.Core.Path.{◌≡◌, refl, sym, ap, ◌∙◌}
use mathlib.Core.Bool.{Bool, true, false, ◌||◌, true≢false}
use mathlib.Core.List.{List}
use Prim.Native.Nat.{ℕ, suc, ◌+◌, ◌*◌, ◌≤◌, ◌<◌}
use native.Mathlib.Omega.{arith}
use lib.Dec.{ltb}
use borrow.Author.Tests.{le-ltb}
use lib.ListN.{length, get_or, set}
use Rattle.rewriting.specs.Terms.{Tree, var, app, nil, cons, is_list}
use Rattle.rewriting.specs.Pairs.{arguments}
use Rattle.rewriting.proofs.Basics.{by_test, or_left, or_right, or_left_false, or_right_false, or_both_false}
use Rattle.polynomials.specs.Polynomials.{Polynomial, Weight, weight, polynomial, no_coefficients, scaled_sum, summed, combined, polynomials, polynomial_of}
use Rattle.polynomials.specs.Limit.{limit, any_above, over, over_limit}
use Rattle.polynomials.proofs.Meaning.{Sixteen, polynomials_sixteen}
use Rattle.weights.specs.Sums.{numbers, Sums, AddsTo, capped}
use Rattle.weights.specs.Working.{rooted, rooted_over}
use Rattle.weights.proofs.Working.{polynomials_cons}
use Rattle.weights.proofs.Adding.{limit_room, all_told, own_constant, own_variable, added_below, SameSums, saturated, to_come, come_grows, come_all}

-- WHAT ADDING TELLS

module _ (passed : Bool) (should after : List ℕ) (a : AddsTo passed should after) where
  -- nothing passed the limit
  pub told_within : ltb limit (get_or after 0 0) ≡ false → (passed ≡ false) × (any_above should ≡ false)
  told_within h =
      let e = sym a.told ∙ h in
      (or_left_false passed (any_above should) e, or_right_false passed (any_above should) e)

  pub adds_sums : ltb limit (get_or after 0 0) ≡ false → Sums after
  adds_sums h = record { long = a.long; within = rw (a.are h) (told_within h).1 }

-- the same numbers are to be reached, and the same is told
pub retold :
    (p q : Bool) (s t after : List ℕ) → AddsTo p s after → (p || any_above s) ≡ (q || any_above t) →
    ((p || any_above s) ≡ false → s ≡ t) → AddsTo q t after
retold p q s t after a e same = record { long = a.long; told = a.told ∙ e; are = λ h. a.are h ∙ same (sym a.told ∙ h) }

or_twice : (a b : Bool) → ((a || b) || b) ≡ (a || b)
or_twice true b = refl
or_twice false true = refl
or_twice false false = refl

-- a polynomial's numbers pass the limit exactly if it does
pub numbers_over : (x : Polynomial) → any_above (numbers x) ≡ over_limit x
unfolding any_above over_limit
numbers_over x = refl

-- an application's own polynomial is one of those that its test looks at
pub root_tells : (rs ws : List Weight) (t : Tree) (f : ℕ) (ts : Tree) → t ≡ app f ts → (rooted_over rs ws t || over_limit (rooted rs ws t)) ≡ rooted_over rs ws t
unfolding rooted rooted_over
root_tells rs ws t f ts e = rw e (or_twice (over ws ts) (over_limit (combined rs f (polynomials ws ts))))

-- A VARIABLE AND A CONSTANT

module _ (sums : List ℕ) (l : length sums ≡ 17) (ws : List Weight) (k : ℕ) where
  pub variable_added :
      (v : ℕ) (t : Tree) → t ≡ var v → v < 16 → (after : List ℕ) → AddsTo false (set sums (suc v) (get_or sums (suc v) 0 + k)) after →
      AddsTo (rooted_over ws ws t) (scaled_sum k (numbers (rooted ws ws t)) sums) after
  unfolding rooted rooted_over
  variable_added v t e h after a = rw (e, ← own_variable sums l k v h) a

  -- a constant is within the limit
  constant_within : (a : ℕ) → a < 65536 → over_limit (polynomial a no_coefficients) ≡ false
  unfolding over_limit any_above limit
  constant_within a h = or_both_false (le-ltb limit a (omega (arith, limit_room))) refl

  pub constant_added :
      (f : ℕ) (t : Tree) → t ≡ app f nil → weight ws f 0 < 65536 → (after : List ℕ) → AddsTo false (set sums 0 (get_or sums 0 0 + k * weight ws f 0)) after →
      AddsTo (rooted_over ws ws t) (scaled_sum k (numbers (rooted ws ws t)) sums) after
  unfolding rooted rooted_over combined summed polynomials over
  constant_added f t e h after a =
      let o : rooted_over ws ws (app f nil) ≡ false = constant_within (weight ws f 0) h in
      rw e (rw (o, ← own_constant sums l k (weight ws f 0)) a)

-- THE SUMS SO FAR

-- t is weighed, all but its last arguments ts: the sums before its argument i come to k times its polynomial with them, and it
-- passes the limit exactly if one of them does or its own polynomial
pub record SumsSoFar (root ws : List Weight) (f k : ℕ) (skips : Bool) (t ts : Tree) (start sums : List ℕ) (i : ℕ) : Type 0 where
  pub sums_are : to_come root f k i (polynomials ws ts) sums ≡ scaled_sum k (numbers (rooted root ws t)) start
  pub over_is : (over ws ts || over_limit (rooted root ws t)) ≡ rooted_over root ws t
  pub known : skips ≡ true → over ws ts ≡ false

module _ (root ws : List Weight) (f k : ℕ) (skips : Bool) (start : List ℕ) where
  pub sums_none :
      (t ts : Tree) → t ≡ app f ts → length start ≡ 17 → (skips ≡ true → over ws (arguments t) ≡ false) →
      SumsSoFar root ws f k skips t ts start (set start 0 (get_or start 0 0 + k * weight root f 0)) 1
  unfolding rooted rooted_over combined arguments
  sums_none t ts e l h =
      rw e
      (record {
        sums_are = ap (to_come root f k 1 (polynomials ws ts)) (own_constant start l k (weight root f 0)) ∙ come_all root f k 1 _ start (polynomials_sixteen ws ts) refl l;
        over_is = refl;
        known = (rw e at h);
      })

  -- once they pass the limit, the whole does
  pub so_far_over :
      (t ts : Tree) (sums : List ℕ) (i : ℕ) → SumsSoFar root ws f k skips t ts start sums i → any_above sums ≡ true →
      any_above (scaled_sum k (numbers (rooted root ws t)) start) ≡ true
  so_far_over t ts sums i s h = sym (ap any_above s.sums_are) ∙ come_grows root f k i (polynomials ws ts) sums h

  -- an argument u is added by the factor that the code takes
  module _
      (t u us : Tree) (term : is_list u ≡ false) (i : ℕ) (sums : List ℕ) (s : SumsSoFar root ws f k skips t (cons u us) start sums i)
      (after : List ℕ) (a : AddsTo (over ws u) (scaled_sum (capped (k * weight root f i)) (numbers (polynomial_of ws u)) sums) after) where
    abbrev x : Polynomial
    x = polynomial_of ws u

    same : SameSums (capped (k * weight root f i)) (k * weight root f i) (numbers x) sums
    same = saturated (k * weight root f i) (numbers x) sums

    come : to_come root f k (suc i) (polynomials ws us) (scaled_sum (k * weight root f i) (numbers x) sums) ≡ scaled_sum k (numbers (rooted root ws t)) start
    unfolding to_come
    come = rw (polynomials_cons ws u us term) at s.sums_are

    -- something passed the limit, and so the term does
    pub argument_over : ltb limit (get_or after 0 0) ≡ true → AddsTo (rooted_over root ws t) (scaled_sum k (numbers (rooted root ws t)) start) after
    unfolding over
    argument_over h =
        let whole : (rooted_over root ws t || any_above (scaled_sum k (numbers (rooted root ws t)) start)) ≡ true =
        by_test (over ws u)
        (λ o. or_left _ (sym s.over_is ∙ rw o))
        (λ o.
        let p : any_above (scaled_sum (k * weight root f i) (numbers x) sums) ≡ true = sym same.passes ∙ (rw o at (sym a.told ∙ h)) in
        or_right (rooted_over root ws t) (sym (ap any_above come) ∙ come_grows root f k (suc i) (polynomials ws us) _ p)) in
        record { long = a.long; told = h ∙ sym whole; are = λ e. absurd (true≢false (sym h ∙ e)) }

    -- nothing did
    pub argument_within : ltb limit (get_or after 0 0) ≡ false → SumsSoFar root ws f k skips t us start after (suc i)
    unfolding over
    argument_within h =
        let n = told_within (over ws u) _ after a h in
        let o : over ws u ≡ false = n.0 in
        record {
          sums_are = ap (to_come root f k (suc i) (polynomials ws us)) (a.are h ∙ same.are n.1) ∙ come;
          over_is = (rw o at s.over_is);
          known = λ e. or_right_false (over ws u) (over ws us) (s.known e);
        }

  -- all are added
  pub sums_all :
      (t : Tree) (i : ℕ) (sums : List ℕ) → SumsSoFar root ws f k skips t nil start sums i → 1 ≤ k → length start ≡ 17 → Sixteen (rooted root ws t) → Sums sums →
      AddsTo (rooted_over root ws t) (scaled_sum k (numbers (rooted root ws t)) start) sums
  unfolding over polynomials to_come
  sums_all t i sums s h l n w =
      let e : sums ≡ scaled_sum k (numbers (rooted root ws t)) start = s.sums_are in
      let above : any_above (scaled_sum k (numbers (rooted root ws t)) start) ≡ false = rw (← e) w.within in
      let below : over_limit (rooted root ws t) ≡ false =
      sym (numbers_over (rooted root ws t)) ∙ added_below k (numbers (rooted root ws t)) start h (ap suc n ∙ sym l) above in
      let o : rooted_over root ws t ≡ false = sym s.over_is ∙ below in
      rw (o, ← e) (all_told sums w.long w.within)
