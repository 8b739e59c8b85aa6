-- One side's polynomial in sums that were 0, and two sides by their sums.
use mathlib.Core.Path.{◌≡◌, refl, sym, ap, ◌∙◌}
use mathlib.Core.Bool.{Bool, true, false, ◌&&◌, ◌||◌}
use mathlib.Core.List.{List}
use Prim.Native.Nat.{ℕ, suc, ◌≤◌, ◌<◌}
use native.Mathlib.Omega.{arith}
use lib.Dec.{ltb, leb}
use lib.ListN.{get_or, set, replicate, length-set}
use borrow.Author.Tests.{le-ltb, lt-ltb}
use Rattle.rewriting.specs.Terms.{Tree, var, app}
use Rattle.rewriting.proofs.Basics.{and_right}
use Rattle.polynomials.specs.Polynomials.{Polynomial, Weight, scaled_sum, each_at_least, at_least, greater}
use Rattle.polynomials.specs.Limit.{limit, any_above}
use Rattle.weights.specs.declared.Verdict.TheVariants.{Over}
use Rattle.weights.specs.declared.PairVerdict.TheVariants.{Over as PairOver, Rises, Stays, Falls}
use Rattle.weights.specs.Sums.{numbers, Sums, AddsTo, Summed}
use Rattle.weights.specs.Working.{rooted, rooted_over, verdict, pair_verdict}
use Rattle.weights.proofs.Working.{sides_verdict, left_passes, right_passes, neither_passes, pair_sides, left_heavy, right_heavy, neither_heavy, rising_sides}
use Rattle.weights.proofs.Adding.{scaled_once}
use Rattle.weights.proofs.Weighing.{numbers_over, root_tells}
use Rattle.weights.proofs.Walking.{rooted_sixteen}

-- ONE SIDE

pub no_sums : Sums (replicate 17 0)
unfolding any_above limit
no_sums = record { long = refl; within = refl }

-- an application
pub application_summed :
    (rs ws : List Weight) (t : Tree) (f : ℕ) (ts : Tree) → t ≡ app f ts → (sums : List ℕ) →
    AddsTo (rooted_over rs ws t) (scaled_sum 1 (numbers (rooted rs ws t)) (replicate 17 0)) sums → Summed (rooted_over rs ws t) (rooted rs ws t) sums
application_summed rs ws t f ts e sums a =
    let x = rooted rs ws t in
    let once : scaled_sum 1 (numbers x) (replicate 17 0) ≡ numbers x =
    ap (λ n. scaled_sum 1 (numbers x) (replicate n 0)) (sym (ap suc (rooted_sixteen rs ws t f ts e))) ∙ scaled_once (numbers x) in
    let told : ltb limit (get_or sums 0 0) ≡ rooted_over rs ws t =
    a.told ∙ ap (λ (ns : List ℕ). rooted_over rs ws t || any_above ns) once ∙ ap (λ b. rooted_over rs ws t || b) (numbers_over x) ∙ root_tells rs ws t f ts e in
    record { long = a.long; told = told; are = λ h. a.are (told ∙ h) ∙ once }

-- a variable
pub variable_summed :
    (ws : List Weight) (t : Tree) (v : ℕ) → t ≡ var v → (sums : List ℕ) → sums ≡ set (replicate 17 0) (suc v) 1 → Summed (rooted_over ws ws t) (rooted ws ws t) sums
unfolding rooted rooted_over
variable_summed ws t v e sums s =
    rw (e, s) (record { long = length-set (replicate 17 0) (suc v) 1; told = le-ltb limit 0 (omega arith); are = λ _. refl })

-- TWO SIDES

module _ (x y : List ℕ) (p q : Polynomial) (l : x ≡ numbers p) (m : y ≡ numbers q) where
  least_by : each_at_least x y ≡ at_least p q
  unfolding each_at_least at_least
  least_by = rw (l, m)

  not_greater : get_or x 0 0 ≤ get_or y 0 0 → greater p q ≡ false
  unfolding greater
  not_greater h = let k : p.constant ≤ q.constant = (rw (l, m) at h) in rw (le-ltb q.constant p.constant k)

  greater_by : get_or y 0 0 < get_or x 0 0 → each_at_least x y ≡ true → greater p q ≡ true
  unfolding each_at_least greater
  greater_by h e =
      let k : q.constant < p.constant = (rw (l, m) at h) in
      let f : leb q.constant p.constant && each_at_least p.coefficients q.coefficients ≡ true = (rw (l, m) at e) in
      rw (lt-ltb q.constant p.constant k, and_right (leb q.constant p.constant) _ f)

module _
    (rs ws : List Weight) (t u : Tree) (x : List ℕ) (a : Summed (rooted_over rs ws t) (rooted rs ws t) x) where
  pub left_over : (test : Polynomial → Polynomial → Bool) → ltb limit (get_or x 0 0) ≡ true → Over ≡ sides_verdict rs ws test t u
  left_over test h = left_passes rs ws test t u (sym a.told ∙ h)

  pub pair_left_over : ltb limit (get_or x 0 0) ≡ true → PairOver ≡ pair_sides rs ws t u
  pair_left_over h = left_heavy rs ws t u (sym a.told ∙ h)

  module _ (y : List ℕ) (b : Summed (rooted_over rs ws u) (rooted rs ws u) y) where
    pub pair_right_over : ltb limit (get_or y 0 0) ≡ true → PairOver ≡ pair_sides rs ws t u
    pair_right_over h = right_heavy rs ws t u (sym b.told ∙ h)

    pub right_over : (test : Polynomial → Polynomial → Bool) → ltb limit (get_or y 0 0) ≡ true → Over ≡ sides_verdict rs ws test t u
    right_over test h = right_passes rs ws test t u (sym b.told ∙ h)

    module _ (h : ltb limit (get_or x 0 0) ≡ false) (k : ltb limit (get_or y 0 0) ≡ false) where
      left_within : rooted_over rs ws t ≡ false
      left_within = sym a.told ∙ h

      right_within : rooted_over rs ws u ≡ false
      right_within = sym b.told ∙ k

      pub by_least : (c : Bool) → each_at_least x y ≡ c → verdict false c ≡ sides_verdict rs ws at_least t u
      by_least c e =
          neither_passes rs ws at_least t u left_within right_within c (sym (least_by x y _ _ (a.are left_within) (b.are right_within)) ∙ e)

      -- a pair's left is not at least its right
      pub by_rising : each_at_least x y ≡ false → Rises ≡ pair_sides rs ws t u
      by_rising e = rising_sides rs ws t u left_within right_within (sym (least_by x y _ _ (a.are left_within) (b.are right_within)) ∙ e)

      -- it is, and the constant tells whether it is greater
      pub by_staying : each_at_least x y ≡ true → get_or x 0 0 ≤ get_or y 0 0 → Stays ≡ pair_sides rs ws t u
      unfolding pair_verdict
      by_staying e s =
          neither_heavy rs ws t u left_within right_within true false
          (sym (least_by x y _ _ (a.are left_within) (b.are right_within)) ∙ e) (not_greater x y _ _ (a.are left_within) (b.are right_within) s)

      pub by_falling : each_at_least x y ≡ true → get_or y 0 0 < get_or x 0 0 → Falls ≡ pair_sides rs ws t u
      unfolding pair_verdict
      by_falling e s =
          neither_heavy rs ws t u left_within right_within true true
          (sym (least_by x y _ _ (a.are left_within) (b.are right_within)) ∙ e) (greater_by x y _ _ (a.are left_within) (b.are right_within) s e)
