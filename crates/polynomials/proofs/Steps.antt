-- Rewrite steps never raise a value, if no rule does that the strategy allows.
use mathlib.Core.List.{List, [], ◌∷◌, ◌++◌}
use Prim.Native.Nat.{ℕ, suc, ◌≤◌, ◌<◌}
use native.Mathlib.Nat.{le_refl, le_trans, add-le-add, mul-le-mul_left}
use native.Mathlib.Omega.{arith}
use lib.ListN.{length}
use Rattle.rewriting.specs.Terms.{Tree, System, rule, Substitution}
use Rattle.rewriting.specs.Steps.{Strategy, RootStep, here, under, in_first, in_others, Step, Steps, stay, move}
use Rattle.rewriting.specs.Systems.{Good}
use Rattle.rewriting.proofs.Trees.{term_not_list}
use Rattle.polynomials.specs.Polynomials.{Weight, weight}
use Rattle.polynomials.specs.Values.{Valuation, weighed, term_values, value}
use Rattle.polynomials.proofs.Substitution.{one_value, valuation, substituted_values}

-- lists of values, one by one
infix 4 ◌≤*◌
pub data ◌≤*◌ : List ℕ → List ℕ → Type 0 where
  none : [] ≤* []
  more : (x y : ℕ) (xs ys : List ℕ) → x ≤ y → xs ≤* ys → (x ∷ xs) ≤* (y ∷ ys)

pub ≤*_refl : (xs : List ℕ) → xs ≤* xs
≤*_refl [] = none
≤*_refl (x ∷ xs) = more x x xs xs (le_refl x) (≤*_refl xs)

pub ≤*_trans : {xs ys zs : List ℕ} → xs ≤* ys → ys ≤* zs → xs ≤* zs
≤*_trans none k = k
≤*_trans (more x y xs ys h hs) (more y' z ys' zs k ks) = more x z xs zs (le_trans h k) (≤*_trans hs ks)

pub ≤*_append : {xs ys us vs : List ℕ} → xs ≤* ys → us ≤* vs → (xs ++ us) ≤* (ys ++ vs)
≤*_append none k = k
≤*_append (more x y xs ys h hs) k = more x y _ _ h (≤*_append hs k)

-- weighted sums are monotone
pub weighed_monotone : (ws : List Weight) (f i : ℕ) {xs ys : List ℕ} → xs ≤* ys → weighed ws f i xs ≤ weighed ws f i ys
unfolding weighed
weighed_monotone ws f i none = le_refl 0
weighed_monotone ws f i (more x y xs ys h hs) =
    let first = mul-le-mul_left (weight ws f i) h in
    let others = weighed_monotone ws f (suc i) hs in
    omega arith

-- the rules that the strategy allows do not raise values
unfoldable pub Kept : System → Strategy → List Weight → Type 0
Kept p m ws =
    (i : ℕ) (s : Substitution) → m i s → i < length p.rules → (a : Valuation) → value ws a (rule p i).right ≤ value ws a (rule p i).left

module _ (p : System) (m : Strategy) (ws : List Weight) (good : Good p) (kept : Kept p m ws) (a : Valuation) where
  root_keeps_values : {t u : Tree} → RootStep p m t u → term_values ws a u ≤* term_values ws a t
  unfolding Kept Good
  root_keeps_values r =
      let b = valuation ws a r.by in
      let rule_good = good r.at r.in_range in
      let from = substituted_values p ws a r.by r.over (rule p r.at).left in
      let to = substituted_values p ws a r.by r.over (rule p r.at).right in
      let left = one_value ws b (rule p r.at).left (term_not_list p _ rule_good.left_term) in
      let right = one_value ws b (rule p r.at).right (term_not_list p _ rule_good.right_term) in
      rw (r.from, r.to, from, to, left, right) (more _ _ [] [] (kept r.at r.by r.allowed r.in_range b) none)

  pub step_keeps_values : {t u : Tree} → Step p m t u → term_values ws a u ≤* term_values ws a t
  unfolding term_values
  step_keeps_values (here t u r) = root_keeps_values r
  step_keeps_values (under f ts us x) =
      more _ _ [] [] (add-le-add (le_refl (weight ws f 0)) (weighed_monotone ws f 1 (step_keeps_values x))) none
  step_keeps_values (in_first t u ts x) = ≤*_append (step_keeps_values x) (≤*_refl (term_values ws a ts))
  step_keeps_values (in_others t ts us x) = ≤*_append (≤*_refl (term_values ws a t)) (step_keeps_values x)

  pub steps_keep_values : {t u : Tree} → Steps (Step p m) t u → term_values ws a u ≤* term_values ws a t
  steps_keep_values (stay t) = ≤*_refl (term_values ws a t)
  steps_keep_values (move t u w x xs) = ≤*_trans (steps_keep_values xs) (step_keeps_values x)
