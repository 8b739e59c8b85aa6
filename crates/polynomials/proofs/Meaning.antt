-- The polynomial of a term has the term's value under every valuation.
use mathlib.Core.Path.{◌≡◌, refl, sym, ap, ◌∙◌}
use mathlib.Core.Bool.{true, false, true≢false}
use mathlib.Core.List.{List, [], ◌∷◌, map, map-append}
use Prim.Native.Nat.{ℕ, zero, suc, ◌+◌, ◌*◌, ◌<◌}
use native.Mathlib.Nat.{add-zero, zero-add}
use native.Mathlib.Omega.{arith}
use lib.ListN.{length, set, replicate, length-set}
use borrow.Author.Tests.{ltb-true}
use Rattle.rewriting.specs.Terms.{Tree, var, app, nil, cons, is_list}
use Rattle.rewriting.specs.Systems.{variables_below}
use Rattle.rewriting.proofs.Basics.{ands, Each, each_nil, each_cons, each_append}
use Rattle.polynomials.specs.Polynomials.{Weight, Weighting, weight, Polynomial, no_coefficients, scaled_sum, summed, combined, polynomials, first, polynomial_of, marked_polynomial}
use Rattle.polynomials.specs.Values.{Valuation, weighed, term_values, first_value, value, marked_value, total, value_of}

-- SIXTEEN COEFFICIENTS

abbrev pub Sixteen : Polynomial → Type 0
Sixteen x = length x.coefficients ≡ 16

pub scaled_length : (k : ℕ) (xs ys : List ℕ) → length xs ≡ length ys → length (scaled_sum k xs ys) ≡ length ys
unfolding scaled_sum
scaled_length k [] ys e = refl
scaled_length k (x ∷ xs) [] e = refl
scaled_length k (x ∷ xs) (y ∷ ys) e = ap suc (scaled_length k xs ys (omega arith))

summed_sixteen :
    (i : ℕ) (ws : List Weight) (f : ℕ) {xs : List Polynomial} (y : Polynomial) → Each Sixteen xs → Sixteen y → Sixteen (summed i ws f xs y)
unfolding summed
summed_sixteen i ws f y each_nil h = h
summed_sixteen i ws f y (each_cons x xs k ks) h =
    summed_sixteen (suc i) ws f _ ks (scaled_length (weight ws f i) x.coefficients y.coefficients (k ∙ sym h) ∙ h)

pub combined_sixteen : (ws : List Weight) (f : ℕ) {xs : List Polynomial} → Each Sixteen xs → Sixteen (combined ws f xs)
unfolding combined
combined_sixteen ws f h = summed_sixteen 1 ws f _ h refl

pub polynomials_sixteen : (ws : List Weight) (t : Tree) → Each Sixteen (polynomials ws t)
unfolding polynomials
polynomials_sixteen ws (var v) = each_cons _ [] (length-set no_coefficients v 1) each_nil
polynomials_sixteen ws (app f ts) = each_cons _ [] (combined_sixteen ws f (polynomials_sixteen ws ts)) each_nil
polynomials_sixteen ws nil = each_nil
polynomials_sixteen ws (cons t ts) = each_append (polynomials_sixteen ws t) (polynomials_sixteen ws ts)

first_sixteen : {xs : List Polynomial} → Each Sixteen xs → Sixteen (first xs)
unfolding first
first_sixteen each_nil = refl
first_sixteen (each_cons x xs h hs) = h

pub sixteen : (ws : List Weight) (t : Tree) → length (polynomial_of ws t).coefficients ≡ 16
unfolding polynomial_of
sixteen ws t = first_sixteen (polynomials_sixteen ws t)

pub marked_sixteen : (w : Weighting) (t : Tree) → length (marked_polynomial w t).coefficients ≡ 16
unfolding marked_polynomial
marked_sixteen w (var v) = refl
marked_sixteen w (app f ts) = combined_sixteen w.marked f (polynomials_sixteen w.weights ts)
marked_sixteen w nil = refl
marked_sixteen w (cons t ts) = refl

-- VALUES

abbrev values : Valuation → List Polynomial → List ℕ
values a xs = map (λ (x : Polynomial). value_of x a) xs

pub none_total : (n v : ℕ) (a : Valuation) → total (replicate n 0) v a ≡ 0
unfolding total
none_total zero v a = refl
none_total (suc n) v a = let others = none_total n (suc v) a in omega arith

-- the coefficients of a variable's polynomial, the first belonging to the variable u
pub one_total : (n u v : ℕ) (a : Valuation) → v < n → total (set (replicate n 0) v 1) u a ≡ a (u + v)
unfolding total
one_total zero u v a h = absurd (omega arith)
one_total (suc n) u zero a h = let others = none_total n (suc u) a in rw add-zero (omega arith)
one_total (suc n) u (suc v) a h =
    let others = one_total n (suc u) v a (omega arith) in
    let same : u + suc v ≡ suc u + v = omega arith in
    rw same (omega arith)

-- scaling and adding polynomials scales and adds values
pub scaled_total :
    (k : ℕ) (xs ys : List ℕ) → length xs ≡ length ys → (v : ℕ) (a : Valuation) →
    total (scaled_sum k xs ys) v a ≡ k * total xs v a + total ys v a
unfolding scaled_sum total
scaled_total k [] ys e v a = omega arith
scaled_total k (x ∷ xs) [] e v a = absurd (omega arith)
scaled_total k (x ∷ xs) (y ∷ ys) e v a = rw (scaled_total k xs ys (omega arith) (suc v) a) (omega arith)

summed_value :
    (i : ℕ) (ws : List Weight) (f : ℕ) {xs : List Polynomial} (y : Polynomial) (a : Valuation) → Each Sixteen xs → Sixteen y →
    value_of (summed i ws f xs y) a ≡ value_of y a + weighed ws f i (values a xs)
unfolding summed value_of weighed
summed_value i ws f y a each_nil h = omega arith
summed_value i ws f y a (each_cons x xs k ks) h =
    let same : length x.coefficients ≡ length y.coefficients = k ∙ sym h in
    let others = summed_value (suc i) ws f _ a ks (scaled_length (weight ws f i) x.coefficients y.coefficients same ∙ h) in
    others ∙ rw (scaled_total (weight ws f i) x.coefficients y.coefficients same 0 a) (omega arith)

-- a symbol's polynomial has the value that its weights give
combined_value :
    (ws : List Weight) (f : ℕ) {xs : List Polynomial} (a : Valuation) → Each Sixteen xs →
    value_of (combined ws f xs) a ≡ weight ws f 0 + weighed ws f 1 (values a xs)
unfolding combined value_of
combined_value ws f a h = summed_value 1 ws f _ a h refl ∙ rw none_total (omega arith)

-- of a list of terms, term by term
polynomials_mean : (ws : List Weight) (t : Tree) (a : Valuation) → variables_below 16 t ≡ true → term_values ws a t ≡ values a (polynomials ws t)
unfolding polynomials term_values variables_below value_of
polynomials_mean ws (var v) a h = simp (one_total 16 0 v a (ltb-true v 16 h), zero-add)
polynomials_mean ws (app f ts) a h =
    rw (polynomials_mean ws ts a h, combined_value ws f a (polynomials_sixteen ws ts))
polynomials_mean ws nil a h = refl
polynomials_mean ws (cons t ts) a h =
    rw (polynomials_mean ws t a (search ands), polynomials_mean ws ts a (search ands), map-append)

-- of a term
pub polynomial_means :
    (ws : List Weight) (t : Tree) (a : Valuation) → is_list t ≡ false → variables_below 16 t ≡ true →
    term_values ws a t ≡ value_of (polynomial_of ws t) a ∷ []
unfolding polynomials polynomial_of first is_list
polynomial_means ws (var v) a e h = polynomials_mean ws (var v) a h
polynomial_means ws (app f ts) a e h = polynomials_mean ws (app f ts) a h
polynomial_means ws nil a e h = absurd (true≢false e)
polynomial_means ws (cons t ts) a e h = absurd (true≢false e)

pub value_means :
    (ws : List Weight) (t : Tree) (a : Valuation) → is_list t ≡ false → variables_below 16 t ≡ true → value ws a t ≡ value_of (polynomial_of ws t) a
unfolding value first_value
value_means ws t a e h = rw (polynomial_means ws t a e h)

-- of a pair's side
pub marked_means : (w : Weighting) (t : Tree) (a : Valuation) → variables_below 16 t ≡ true → marked_value w a t ≡ value_of (marked_polynomial w t) a
unfolding marked_value marked_polynomial variables_below value_of
marked_means w (var v) a h = rw none_total
marked_means w (app f ts) a h =
    rw (polynomials_mean w.weights ts a h, combined_value w.marked f a (polynomials_sixteen w.weights ts))
marked_means w nil a h = rw none_total
marked_means w (cons t ts) a h = rw none_total
