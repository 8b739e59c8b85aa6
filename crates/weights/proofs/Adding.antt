-- Sums within the limit: what is added to them, and factors past the limit.
use mathlib.Core.Path.{◌≡◌, refl, sym, ap, ap₂, ◌∙◌}
use mathlib.Core.Bool.{Bool, true, false, ◌||◌, true≢false}
use mathlib.Core.List.{List, [], ◌∷◌}
use Prim.Native.Nat.{ℕ, zero, suc, ◌+◌, ◌*◌, ◌≤◌, ◌<◌}
use native.Mathlib.Nat.{mul-le-mul_left, mul-le-mul_right}
use native.Mathlib.Omega.{arith}
use lib.Dec.{ltb}
use lib.ListN.{length, get_or, set, replicate, length-set}
use lib.Seq.{get_or-set_same}
use borrow.Author.Tests.{lt-ltb, le-ltb, ltb-true, ltb-false}
use Rattle.rewriting.proofs.Basics.{ors, by_test, or_right, or_right_false, or_both_false, Each, each_nil, each_cons}
use Rattle.polynomials.specs.Polynomials.{Polynomial, Weight, weight, polynomial, no_coefficients, scaled_sum, summed}
use Rattle.polynomials.specs.Limit.{limit, any_above}
use Rattle.polynomials.proofs.Meaning.{Sixteen, scaled_length}
use Rattle.polynomials.proofs.LimitMeans.{below_limit}
use Rattle.weights.specs.Sums.{numbers, Sums, AddsTo, capped, most_part}

-- THE LIMIT

-- a weight is within it, and it leaves room for a higher one
pub limit_room : (65535 ≤ limit) × (limit < 1099511627776)
unfolding limit
limit_room = (omega arith, omega arith)

pub part_small : (k n : ℕ) → k ≤ limit + 1 → n < 65536 → k * n ≤ most_part
part_small k n h l =
    let one : k * n ≤ k * 65536 = mul-le-mul_left k (let m : n ≤ 65536 = omega arith in m) in
    omega (arith, limit_room)

pub capped_small : (k : ℕ) → capped k ≤ limit + 1
unfolding capped
capped_small k = by_test (ltb limit k) (λ e. rw e (omega arith)) (λ e. rw e (omega (arith, ltb-false limit k e)))

-- ONE SUM

set_over : (xs : List ℕ) (i x : ℕ) → i < length xs → limit < x → any_above (set xs i x) ≡ true
unfolding any_above
set_over [] i x h l = absurd (omega arith)
set_over (y ∷ ys) zero x h l = rw (lt-ltb limit x l)
set_over (y ∷ ys) (suc i) x h l = or_right (ltb limit y) (set_over ys i x (omega arith) l)

set_within : (xs : List ℕ) (i x : ℕ) → any_above xs ≡ false → x ≤ limit → any_above (set xs i x) ≡ false
unfolding any_above
set_within [] i x h l = refl
set_within (y ∷ ys) zero x h l = or_both_false (le-ltb limit x l) (or_right_false (ltb limit y) _ h)
set_within (y ∷ ys) (suc i) x h l =
    let first : ltb limit y ≡ false = search ors in
    or_both_false first (set_within ys i x (or_right_false (ltb limit y) _ h) l)

first_within : (xs : List ℕ) → any_above xs ≡ false → ltb limit (get_or xs 0 0) ≡ false
unfolding any_above
first_within [] h = le-ltb limit 0 (omega arith)
first_within (x ∷ xs) h = search ors

-- nothing has passed the limit
pub all_told : (should : List ℕ) → length should ≡ 17 → any_above should ≡ false → AddsTo false should should
all_told should l h = record { long = l; told = first_within should h ∙ sym h; are = λ e. refl }

-- something has
pub over_told : (passed : Bool) (should sums : List ℕ) → length sums ≡ 17 → (passed || any_above should) ≡ true → AddsTo passed should (set sums 0 (limit + 1))
over_told passed should sums l h =
    let first : get_or (set sums 0 (limit + 1)) 0 0 ≡ limit + 1 = get_or-set_same sums 0 (limit + 1) 0 (omega arith) in
    let past : ltb limit (get_or (set sums 0 (limit + 1)) 0 0) ≡ true = rw first (lt-ltb limit (limit + 1) (omega arith)) in
    record { long = length-set sums 0 _ ∙ l; told = past ∙ sym h; are = λ e. absurd (true≢false (sym past ∙ e)) }

-- x is added to sum i
module _ (sums : List ℕ) (i x : ℕ) (s : Sums sums) (h : i < 17) where
  pub one_fits : get_or sums i 0 ≤ limit
  one_fits = below_limit sums s.within i (omega (arith, s.long))

  pub one_over :
      ltb limit (get_or sums i 0 + x) ≡ true →
      AddsTo false (set sums i (get_or sums i 0 + x)) (set (set sums i (get_or sums i 0 + x)) 0 (limit + 1))
  one_over e =
      over_told false (set sums i (get_or sums i 0 + x)) (set sums i (get_or sums i 0 + x)) (length-set sums i (get_or sums i 0 + x) ∙ s.long)
      (set_over sums i (get_or sums i 0 + x) (omega (arith, s.long)) (ltb-true limit (get_or sums i 0 + x) e))

  pub one_within : ltb limit (get_or sums i 0 + x) ≡ false → AddsTo false (set sums i (get_or sums i 0 + x)) (set sums i (get_or sums i 0 + x))
  one_within e =
      all_told (set sums i (get_or sums i 0 + x)) (length-set sums i (get_or sums i 0 + x) ∙ s.long)
      (set_within sums i (get_or sums i 0 + x) s.within (ltb-false limit (get_or sums i 0 + x) e))

-- SCALED SUMS

pub scaled_none : (k : ℕ) (ys : List ℕ) → scaled_sum k (replicate (length ys) 0) ys ≡ ys
unfolding scaled_sum
scaled_none k [] = refl
scaled_none k (y ∷ ys) = ap₂ ◌∷◌ (omega arith) (scaled_none k ys)

-- the factor 0 adds nothing, and the factor 1 to nothing is all there is
pub scaled_zero : (xs ys : List ℕ) → scaled_sum 0 xs ys ≡ ys
unfolding scaled_sum
scaled_zero [] ys = refl
scaled_zero (x ∷ xs) [] = refl
scaled_zero (x ∷ xs) (y ∷ ys) = ap₂ ◌∷◌ (omega arith) (scaled_zero xs ys)

pub scaled_once : (xs : List ℕ) → scaled_sum 1 xs (replicate (length xs) 0) ≡ xs
unfolding scaled_sum
scaled_once [] = refl
scaled_once (x ∷ xs) = ap₂ ◌∷◌ (omega arith) (scaled_once xs)

-- a part in one slot
one_slot :
    (k a : ℕ) (ys : List ℕ) (s : ℕ) → s < length ys → set ys s (get_or ys s 0 + k * a) ≡ scaled_sum k (set (replicate (length ys) 0) s a) ys
unfolding scaled_sum
one_slot k a [] s h = absurd (omega arith)
one_slot k a (y ∷ ys) zero h = ap₂ ◌∷◌ (omega arith) (sym (scaled_none k ys))
one_slot k a (y ∷ ys) (suc s) h = ap₂ ◌∷◌ (omega arith) (one_slot k a ys s (omega arith))

module _ (sums : List ℕ) (l : length sums ≡ 17) where
  -- a constant
  pub own_constant : (k a : ℕ) → set sums 0 (get_or sums 0 0 + k * a) ≡ scaled_sum k (numbers (polynomial a no_coefficients)) sums
  own_constant k a = one_slot k a sums 0 (omega arith) ∙ ap (λ n. scaled_sum k (set (replicate n 0) 0 a) sums) l

  -- a variable
  pub own_variable : (k v : ℕ) → v < 16 → set sums (suc v) (get_or sums (suc v) 0 + k) ≡ scaled_sum k (numbers (polynomial 0 (set no_coefficients v 1))) sums
  own_variable k v h =
      ap (λ n. set sums (suc v) (get_or sums (suc v) 0 + n)) (let e : k ≡ k * 1 = omega arith in e)
      ∙ one_slot k 1 sums (suc v) (omega arith)
      ∙ ap (λ n. scaled_sum k (set (replicate n 0) (suc v) 1) sums) l

scaled_twice :
    (k w : ℕ) (xs ys zs : List ℕ) → length xs ≡ length ys → length ys ≡ length zs →
    scaled_sum k (scaled_sum w xs ys) zs ≡ scaled_sum (k * w) xs (scaled_sum k ys zs)
unfolding scaled_sum
scaled_twice k w [] [] [] e l = refl
scaled_twice k w [] [] (z ∷ zs) e l = absurd (omega arith)
scaled_twice k w [] (y ∷ ys) zs e l = absurd (omega arith)
scaled_twice k w (x ∷ xs) [] zs e l = absurd (omega arith)
scaled_twice k w (x ∷ xs) (y ∷ ys) [] e l = absurd (omega arith)
scaled_twice k w (x ∷ xs) (y ∷ ys) (z ∷ zs) e l = ap₂ ◌∷◌ (omega arith) (scaled_twice k w xs ys zs (omega arith) (omega arith))

-- what was past the limit stays past it
grows : (k : ℕ) (xs ys : List ℕ) → any_above ys ≡ true → any_above (scaled_sum k xs ys) ≡ true
unfolding scaled_sum any_above
grows k [] ys h = h
grows k (x ∷ xs) [] h = h
grows k (x ∷ xs) (y ∷ ys) h =
    by_test (ltb limit y)
    (λ e. rw (lt-ltb limit (k * x + y) (let l = ltb-true limit y e in omega arith)))
    (λ e. or_right (ltb limit (k * x + y)) (grows k xs ys (rw e at h)))

-- what is added at least once is no more than the sum
pub added_below : (k : ℕ) (xs ys : List ℕ) → 1 ≤ k → length xs ≡ length ys → any_above (scaled_sum k xs ys) ≡ false → any_above xs ≡ false
unfolding scaled_sum any_above
added_below k [] ys h e s = refl
added_below k (x ∷ xs) [] h e s = absurd (omega arith)
added_below k (x ∷ xs) (y ∷ ys) h e s =
    let first : ltb limit (k * x + y) ≡ false = search ors in
    let more : 1 * x ≤ k * x = mul-le-mul_right x h in
    let below = ltb-false limit (k * x + y) first in
    or_both_false (le-ltb limit x (omega arith)) (added_below k xs ys h (omega arith) (or_right_false (ltb limit (k * x + y)) _ s))

-- FACTORS PAST THE LIMIT

-- anything but 0 is past it under such a factor, however large the factor is
pub record SameSums (k l : ℕ) (xs ys : List ℕ) : Type 0 where
  pub passes : any_above (scaled_sum k xs ys) ≡ any_above (scaled_sum l xs ys)
  pub are : any_above (scaled_sum k xs ys) ≡ false → scaled_sum k xs ys ≡ scaled_sum l xs ys

past_limit : (k : ℕ) → limit < k → (xs ys : List ℕ) → SameSums (limit + 1) k xs ys
unfolding scaled_sum any_above
past_limit k h [] ys = record { passes = refl; are = λ e. refl }
past_limit k h (x ∷ xs) [] = record { passes = refl; are = λ e. refl }
past_limit k h (zero ∷ xs) (y ∷ ys) =
    let a : (limit + 1) * 0 + y ≡ k * 0 + y = omega arith in
    let r = past_limit k h xs ys in
    record {
      passes = ap₂ (λ (n : ℕ) (b : Bool). ltb limit n || b) a r.passes;
      are = λ e. ap₂ ◌∷◌ a (r.are (or_right_false (ltb limit ((limit + 1) * 0 + y)) _ e));
    }
past_limit k h (suc x ∷ xs) (y ∷ ys) =
    let a = lt-ltb limit ((limit + 1) * suc x + y) (omega arith) in
    let b = lt-ltb limit (k * suc x + y) (omega arith) in
    record { passes = rw (a, b); are = λ e. absurd (true≢false (sym (rw a) ∙ e)) }

pub saturated : (k : ℕ) (xs ys : List ℕ) → SameSums (capped k) k xs ys
unfolding capped
saturated k xs ys =
    by_test (ltb limit k)
    (λ e. rw e (past_limit k (ltb-true limit k e) xs ys))
    (λ e. rw e (record { passes = refl; are = λ h. refl }))

-- ARGUMENTS

-- the sums, and the arguments from argument i on, each times k times its weight
unfoldable pub to_come : (root : List Weight) → (symbol k i : ℕ) → List Polynomial → List ℕ → List ℕ
to_come rs f k i [] s = s
to_come rs f k i (x ∷ xs) s = to_come rs f k (suc i) xs (scaled_sum (k * weight rs f i) (numbers x) s)

pub come_grows : (rs : List Weight) (f k i : ℕ) (xs : List Polynomial) (s : List ℕ) → any_above s ≡ true → any_above (to_come rs f k i xs s) ≡ true
unfolding to_come
come_grows rs f k i [] s h = h
come_grows rs f k i (x ∷ xs) s h = come_grows rs f k (suc i) xs _ (grows (k * weight rs f i) (numbers x) s h)

-- with all of them they come to k times the whole
pub come_all :
    (rs : List Weight) (f k i : ℕ) {xs : List Polynomial} (y : Polynomial) (s : List ℕ) → Each Sixteen xs → Sixteen y → length s ≡ 17 →
    to_come rs f k i xs (scaled_sum k (numbers y) s) ≡ scaled_sum k (numbers (summed i rs f xs y)) s
unfolding to_come summed scaled_sum
come_all rs f k i y s each_nil b l = refl
come_all rs f k i y s (each_cons x xs e es) b l =
    let w = weight rs f i in
    let z : Polynomial = polynomial (y.constant + w * x.constant) (scaled_sum w x.coefficients y.coefficients) in
    let first : scaled_sum w (numbers x) (numbers y) ≡ numbers z = ap (λ n. n ∷ scaled_sum w x.coefficients y.coefficients) (omega arith) in
    let step : scaled_sum (k * w) (numbers x) (scaled_sum k (numbers y) s) ≡ scaled_sum k (numbers z) s =
    sym (scaled_twice k w (numbers x) (numbers y) s (ap suc (e ∙ sym b)) (ap suc b ∙ sym l)) ∙ ap (λ (ns : List ℕ). scaled_sum k ns s) first in
    ap (to_come rs f k (suc i) xs) step ∙ come_all rs f k (suc i) z s es (scaled_length w x.coefficients y.coefficients (e ∙ sym b) ∙ b) l

-- CAPPED FACTORS, as the code tests them
pub cap_over : (k : ℕ) → ltb limit k ≡ true → limit + 1 ≡ capped k
unfolding capped
cap_over k e = rw e

pub cap_not : (k : ℕ) → ltb limit k ≡ false → k ≡ capped k
unfolding capped
cap_not k e = rw e
