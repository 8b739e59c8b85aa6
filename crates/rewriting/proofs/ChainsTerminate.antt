-- If all derivations end, all chains end. A chain is followed by the derivation of one term: each link's left side comes to stand in
-- that term as a subtree, and each link takes a step of it.
use mathlib.Core.Path.{◌≡◌, refl, sym, ap, subst₂}
use mathlib.Core.Bool.{true}
use mathlib.Core.List.{[]}
use Prim.Native.Nat.{ℕ}
use Rattle.rewriting.specs.Terms.{Tree, var, app, nil, cons, System, rule, is_term, Substitution, substituted}
use Rattle.rewriting.specs.Steps.{Strategy, RootStep, InContext, here, under, in_first, in_others, Step, Steps, stay, move}
use Rattle.rewriting.specs.Termination.{SN, sn}
use Rattle.rewriting.specs.Pairs.{subterms, pair_left, pair_right}
use Rattle.rewriting.specs.Systems.{Good}
use Rattle.rewriting.specs.Chains.{Link, Valid, Next, Terminating, ChainsTerminating}
use Rattle.rewriting.proofs.Basics.{Each, each_nil, each_cons, each_append, each_map}
use Rattle.rewriting.proofs.Relations.{steps_along}
use Rattle.rewriting.proofs.Trees.{substituted_term}
use Rattle.rewriting.proofs.Pairs.{pair_rule, pair_right_has, pair_left_term}
use Rattle.rewriting.proofs.Defined.{same_root_form}

-- SUBTREES: x stands somewhere in t

data Subtree (x : Tree) : Tree → Type 0 where
  whole : Subtree x x
  in_arguments : (f : ℕ) (ts : Tree) → Subtree x ts → Subtree x (app f ts)
  in_head : (t ts : Tree) → Subtree x t → Subtree x (cons t ts)
  in_tail : (t ts : Tree) → Subtree x ts → Subtree x (cons t ts)

subtree_trans : {x y t : Tree} → Subtree x y → Subtree y t → Subtree x t
subtree_trans a whole = a
subtree_trans a (in_arguments f ts b) = in_arguments f ts (subtree_trans a b)
subtree_trans a (in_head t ts b) = in_head t ts (subtree_trans a b)
subtree_trans a (in_tail t ts b) = in_tail t ts (subtree_trans a b)

subtree_substituted : (s : Substitution) {x t : Tree} → Subtree x t → Subtree (substituted s x) (substituted s t)
unfolding substituted
subtree_substituted s whole = whole
subtree_substituted s (in_arguments f ts a) = in_arguments f (substituted s ts) (subtree_substituted s a)
subtree_substituted s (in_head t ts a) = in_head (substituted s t) (substituted s ts) (subtree_substituted s a)
subtree_substituted s (in_tail t ts a) = in_tail (substituted s t) (substituted s ts) (subtree_substituted s a)

subterms_subtrees : (t : Tree) → Each (λ x. Subtree x t) (subterms t)
unfolding subterms
subterms_subtrees (var v) = each_cons (var v) [] whole each_nil
subterms_subtrees (app f ts) = each_cons (app f ts) _ whole (each_map (λ x a. in_arguments f ts a) (subterms_subtrees ts))
subterms_subtrees nil = each_nil
subterms_subtrees (cons t ts) =
    each_append (each_map (λ x a. in_head t ts a) (subterms_subtrees t)) (each_map (λ x a. in_tail t ts a) (subterms_subtrees ts))

-- a step of a subtree is a step of the tree, and what it leads to stands in what that leads to
subtree_step : {R : Tree → Tree → Type 0} {x y t : Tree} → Subtree x t → InContext R x y → (u : Tree) × InContext R t u × Subtree y u
subtree_step {y = y} whole r = (y, r, whole)
subtree_step (in_arguments f ts a) r = let (us, k, b) = subtree_step a r in (app f us, under f ts us k, in_arguments f us b)
subtree_step (in_head t ts a) r = let (u, k, b) = subtree_step a r in (cons u ts, in_first t u ts k, in_head u ts b)
subtree_step (in_tail t ts a) r = let (us, k, b) = subtree_step a r in (cons t us, in_others t ts us k, in_tail t us b)

module _ (p : System) (m : Strategy) where
  -- a link's left side steps to its right side
  link_step : (x : Link) → Valid p m x → {t : Tree} → t ≡ substituted x.by (pair_left p x.pair)
      → RootStep p m t (substituted x.by (rule p x.pair.at_rule).right)
  unfolding pair_left
  link_step x v e =
      record { at = x.pair.at_rule; by = x.by; in_range = pair_rule p x.pair v.is; over = v.over; allowed = v.allowed; from = e; to = refl }

  -- in which its call stands
  link_call : (x : Link) → Valid p m x → Subtree (substituted x.by (pair_right p x.pair)) (substituted x.by (rule p x.pair.at_rule).right)
  link_call x v = subtree_substituted x.by (pair_right_has p x.pair v.is (subterms_subtrees (rule p x.pair.at_rule).right))

  -- and derives to the next link's left side
  call_derives : (x y : Link) → Next p m x y
      → Steps (Step p m) (substituted x.by (pair_right p x.pair)) (substituted y.by (pair_left p y.pair))
  unfolding substituted
  call_derives x y n =
      let form = same_root_form (pair_right p x.pair) (pair_left p y.pair) n.roots in
      subst₂ (Steps (Step p m)) (ap (substituted x.by) (sym form.1)) (ap (substituted y.by) (sym form.2))
      (steps_along (app form.0) (under form.0) n.derives)

  -- chains end from a link whose left side is derived from a subtree of a term that terminates
  chain_terminates : {t : Tree} → SN (Step p m) t → {x w : Tree} → Subtree x t → Steps (Step p m) x w
      → (y : Link) → Valid p m y → w ≡ substituted y.by (pair_left p y.pair) → SN (Next p m) y
  chain_terminates (sn t h) a (move x u w r rs) y v e = let k = subtree_step a r in chain_terminates (h k.0 k.1) k.2 rs y v e
  chain_terminates (sn t h) a (stay x) y v e =
      let k = subtree_step a (here x _ (link_step y v e)) in
      sn y (λ z n. chain_terminates (h k.0 k.1) (subtree_trans (link_call y v) k.2) (call_derives y z n) z n.valid refl)

  link_term : Good p → (x : Link) → Valid p m x → is_term p (substituted x.by (pair_left p x.pair)) ≡ true
  link_term good x v = substituted_term p x.by v.over (pair_left p x.pair) (pair_left_term p x.pair v.is good)

pub terms_to_chains : (p : System) (m : Strategy) → Good p → Terminating p m → ChainsTerminating p m
unfolding Terminating ChainsTerminating
terms_to_chains p m good terms x v = chain_terminates p m (terms _ (link_term p m good x v)) whole (stay _) x v refl
