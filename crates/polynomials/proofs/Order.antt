-- The order of polynomials is the order of their values over all naturals.
use mathlib.Core.Path.{◌≡◌, refl, sym, ◌∙◌}
use mathlib.Core.Bool.{true, cond}
use mathlib.Core.Logic.{◌↔◌}
use mathlib.Core.List.{List, [], ◌∷◌}
use Prim.Native.Nat.{ℕ, suc, ◌+◌, ◌*◌, ◌≤◌, ◌<◌}
use native.Mathlib.Nat.{mul-le-mul_right, le_refl}
use native.Mathlib.Omega.{arith}
use lib.Dec.{leb, eqb}
use lib.ListN.{length}
use borrow.Author.Tests.{leb-true, le-leb, leb-false, eq-eqb, ne_eqb}
use Rattle.rewriting.proofs.Basics.{ands, and_both, by_test}
use Rattle.polynomials.specs.Polynomials.{Polynomial, polynomial, each_at_least, at_least, greater}
use Rattle.polynomials.specs.Values.{Valuation, total, value_of}

-- from the coefficients to the values
each_total : (xs ys : List ℕ) → length xs ≡ length ys → each_at_least xs ys ≡ true → (v : ℕ) (a : Valuation) → total ys v a ≤ total xs v a
unfolding each_at_least total
each_total [] [] e h v a = le_refl 0
each_total [] (y ∷ ys) e h v a = absurd (omega arith)
each_total (x ∷ xs) [] e h v a = absurd (omega arith)
each_total (x ∷ xs) (y ∷ ys) e h v a =
    let first : y * a v ≤ x * a v = mul-le-mul_right (a v) (leb-true y x (search ands)) in
    let others : total ys (suc v) a ≤ total xs (suc v) a = each_total xs ys (omega arith) (search ands) (suc v) a in
    omega arith

-- the valuation that is n at the variable k and 0 at all others
spike : (k n : ℕ) → Valuation
spike k n v = cond (eqb k v) n 0

spike_there : (k n : ℕ) → spike k n k ≡ n
unfolding spike
spike_there k n = rw (eq-eqb k k refl)

spike_elsewhere : (k n v : ℕ) → (k ≡ v → ⊥) → spike k n v ≡ 0
unfolding spike
spike_elsewhere k n v h = rw (ne_eqb k v h)

-- past the spike nothing is added
total_past : (cs : List ℕ) (v k n : ℕ) → k < v → total cs v (spike k n) ≡ 0
unfolding total
total_past [] v k n h = refl
total_past (c ∷ cs) v k n h =
    let none : spike k n v ≡ 0 = spike_elsewhere k n v (λ e. omega arith) in
    let others : total cs (suc v) (spike k n) ≡ 0 = total_past cs (suc v) k n (omega arith) in
    rw (none, others) (omega arith)

-- if y * n exceeds x * n by at most c for every n then y is at most x
slope : (c d x y : ℕ) → ((n : ℕ) → d + y * n ≤ c + x * n) → y ≤ x
slope c d x y h = by_test (leb y x) (λ e. leb-true y x e) (λ e. absurd (steep (leb-false y x e)))
  where
    steep : x < y → ⊥
    steep k =
        let far : d + y * suc c ≤ c + x * suc c = h (suc c) in
        let more : suc x * suc c ≤ y * suc c = mul-le-mul_right (suc c) k in
        omega arith

-- from the values, at spikes, to the coefficients
total_each :
    (xs ys : List ℕ) → length xs ≡ length ys → (c d v : ℕ) →
    ((k n : ℕ) → v ≤ k → d + total ys v (spike k n) ≤ c + total xs v (spike k n)) → each_at_least xs ys ≡ true
unfolding each_at_least total
total_each [] ys e c d v h = refl
total_each (x ∷ xs) [] e c d v h = refl
total_each (x ∷ xs) (y ∷ ys) e c d v h = and_both (le-leb y x (slope c d x y here)) (total_each xs ys (omega arith) c d (suc v) beyond)
  where
    here : (n : ℕ) → d + y * n ≤ c + x * n
    here n =
        let past : (cs : List ℕ) → total cs (suc v) (spike v n) ≡ 0 = λ cs. total_past cs (suc v) v n (omega arith) in
        let at_v = rw (spike_there v n, past xs, past ys) at (h v n (le_refl v)) in
        omega arith

    beyond : (k n : ℕ) → suc v ≤ k → d + total ys (suc v) (spike k n) ≤ c + total xs (suc v) (spike k n)
    beyond k n le =
        let at_k = rw (spike_elsewhere k n v (λ q. omega arith)) at (h k n (omega arith)) in
        omega arith

-- all variables at 0: the constants
total_zero : (cs : List ℕ) (v : ℕ) → total cs v (λ k. 0) ≡ 0
unfolding total
total_zero [] v = refl
total_zero (c ∷ cs) v = let others = total_zero cs (suc v) in omega arith

-- at least exactly if it is so over all naturals
pub least_means :
    (x y : Polynomial) → length x.coefficients ≡ 16 → length y.coefficients ≡ 16 →
    (at_least x y ≡ true) ↔ ((a : Valuation) → value_of y a ≤ value_of x a)
unfolding at_least value_of
least_means x y m n = (to, from)
  where
    same : length x.coefficients ≡ length y.coefficients
    same = m ∙ sym n

    to : at_least x y ≡ true → (a : Valuation) → value_of y a ≤ value_of x a
    to h a =
        let constants = leb-true y.constant x.constant (search ands) in
        let others = each_total x.coefficients y.coefficients same (search ands) 0 a in
        omega arith

    from : ((a : Valuation) → value_of y a ≤ value_of x a) → at_least x y ≡ true
    from h =
        let at_zero = rw (total_zero x.coefficients 0, total_zero y.coefficients 0) at (h (λ k. 0)) in
        let constants : y.constant ≤ x.constant = omega arith in
        let others = total_each x.coefficients y.coefficients same x.constant y.constant 0 (λ k n le. h (spike k n)) in
        and_both (le-leb y.constant x.constant constants) others

-- greater likewise: at least even if the other's constant were one more
pub greater_means :
    (x y : Polynomial) → length x.coefficients ≡ 16 → length y.coefficients ≡ 16 →
    (greater x y ≡ true) ↔ ((a : Valuation) → value_of y a < value_of x a)
unfolding at_least greater value_of
greater_means x y m n =
    let least = least_means x (polynomial (suc y.constant) y.coefficients) m n in
    (λ h a. let more = least.0 h a in omega arith, λ h. least.1 (λ a. let more = h a in omega arith))
