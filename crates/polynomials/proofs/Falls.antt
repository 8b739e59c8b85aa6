-- Along a chain the value of a link never rises if its pair does not rise, and falls if its pair falls.
use mathlib.Core.Path.{◌≡◌}
use mathlib.Core.Bool.{true}
use Prim.Native.Nat.{ℕ, ◌+◌, ◌≤◌, ◌<◌}
use native.Mathlib.Nat.{le_refl, le_trans, lt_of_le_of_lt, add-le-add}
use Rattle.rewriting.specs.Terms.{Tree, app, System, substituted}
use Rattle.rewriting.specs.Steps.{Strategy, Step, Steps}
use Rattle.rewriting.specs.Pairs.{pair_left, pair_right, same_root, arguments}
use Rattle.rewriting.specs.Chains.{Link, Valid, Next}
use Rattle.rewriting.specs.Systems.{Good}
use Rattle.rewriting.proofs.Defined.{same_root_form}
use Rattle.polynomials.specs.Polynomials.{Weighting, weight}
use Rattle.polynomials.specs.Values.{Valuation, weighed, term_values, marked_value}
use Rattle.polynomials.proofs.Substitution.{valuation, substituted_values}
use Rattle.polynomials.proofs.Steps.{◌≤*◌, Kept, steps_keep_values, weighed_monotone}

-- the values of the variables in a link: those of what its substitution puts for them, where all variables are 0
abbrev pub link_valuation : Weighting → Link → Valuation
link_valuation w x = valuation w.weights (λ v. 0) x.by

-- the value of a link: that of its pair's left
unfoldable pub link_value : System → Weighting → Link → ℕ
link_value p w x = marked_value w (link_valuation w x) (pair_left p x.pair)

marked_applied :
    (w : Weighting) (a : Valuation) (f : ℕ) (t : Tree) → t ≡ app f (arguments t) →
    marked_value w a t ≡ weight w.marked f 0 + weighed w.marked f 1 (term_values w.weights a (arguments t))
unfolding marked_value arguments
marked_applied w a f t e = rw e

-- the tuple symbols being the same, a side with smaller arguments has the smaller value
marked_monotone :
    (w : Weighting) (a b : Valuation) (t u : Tree) → same_root t u ≡ true →
    term_values w.weights b (arguments u) ≤* term_values w.weights a (arguments t) → marked_value w b u ≤ marked_value w a t
marked_monotone w a b t u h k =
    let same = same_root_form t u h in
    let f = same.0 in
    rw (marked_applied w a f t same.1, marked_applied w b f u same.2)
    (add-le-add (le_refl (weight w.marked f 0)) (weighed_monotone w.marked f 1 k))

-- x's right derives to y's left by steps of the strategy n
abbrev pub Linked : System → Strategy → Link → Link → Type 0
Linked p n x y =
    Steps (Step p n) (substituted x.by (arguments (pair_right p x.pair))) (substituted y.by (arguments (pair_left p y.pair)))

-- a chain under the strategy m, whose steps between two links are steps of n too, which raise no value
module _
    (p : System) (m n : Strategy) (w : Weighting) (good : Good p) (kept : Kept p n w.weights) {x y : Link} (valid : Valid p m x)
    (next : Next p m x y) (linked : Linked p n x y) where
  -- from a pair's right to the left of the next
  right_to_left : marked_value w (link_valuation w y) (pair_left p y.pair) ≤ marked_value w (link_valuation w x) (pair_right p x.pair)
  right_to_left =
      let ws = w.weights in
      let left = substituted_values p ws (λ v. 0) y.by next.valid.over (arguments (pair_left p y.pair)) in
      let right = substituted_values p ws (λ v. 0) x.by valid.over (arguments (pair_right p x.pair)) in
      let derived = rw (left, right) at (steps_keep_values p n ws good kept (λ v. 0) linked) in
      marked_monotone w _ _ (pair_right p x.pair) (pair_left p y.pair) next.roots derived

  -- the left of x's pair is at least its right
  pub next_value :
      ((a : Valuation) → marked_value w a (pair_right p x.pair) ≤ marked_value w a (pair_left p x.pair)) → link_value p w y ≤ link_value p w x
  unfolding link_value
  next_value h = le_trans right_to_left (h (link_valuation w x))

  -- the left of x's pair is greater than its right
  pub next_falls :
      ((a : Valuation) → marked_value w a (pair_right p x.pair) < marked_value w a (pair_left p x.pair)) → link_value p w y < link_value p w x
  unfolding link_value
  next_falls h = lt_of_le_of_lt right_to_left (h (link_valuation w x))
