-- Dependency pairs of a system: what it takes to be one, and what a pair's sides inherit from the sides of its rule.
use mathlib.Core.Path.{◌≡◌}
use mathlib.Core.Bool.{true}
use Prim.Native.Nat.{ℕ, ◌<◌}
use borrow.Author.Tests.{ltb-true, lt-ltb}
use lib.ListN.{length}
use Rattle.rewriting.specs.Terms.{Tree, nil, System, rule, is_term}
use Rattle.rewriting.specs.Pairs.{Pair, subterms, defined_root, pair_left, pair_right, is_pair}
use Rattle.rewriting.specs.Systems.{variables, member, variables_below, GoodRule, Good}
use Rattle.rewriting.proofs.Basics.{ands, and_both, Each, each_at}
use Rattle.rewriting.proofs.Trees.{term_well, subterms_terms, all_in_member, subterms_variables, subterms_below}

pub pair_by : (p : System) (q : Pair) → q.at_rule < length p.rules → q.place < length (subterms (rule p q.at_rule).right)
    → defined_root p (pair_right p q) ≡ true → is_pair p q ≡ true
unfolding is_pair
pair_by p q i k d = and_both (and_both (lt-ltb _ _ i) (lt-ltb _ _ k)) d

module _ (p : System) (q : Pair) (is : is_pair p q ≡ true) where
  pub pair_rule : q.at_rule < length p.rules
  unfolding is_pair
  pair_rule = ltb-true _ _ (search (ands, is))

  pub pair_place : q.place < length (subterms (rule p q.at_rule).right)
  unfolding is_pair
  pair_place = ltb-true _ _ (search (ands, is))

  pub pair_defined : defined_root p (pair_right p q) ≡ true
  unfolding is_pair
  pair_defined = search (ands, is)

  -- the pair's right side has what all subterms of the rule's right side have
  pub pair_right_has : {P : Tree → Type 0} → Each P (subterms (rule p q.at_rule).right) → P (pair_right p q)
  unfolding pair_right
  pair_right_has h = each_at nil h q.place pair_place

  module _ (good : Good p) where
    pub pair_good : GoodRule p (rule p q.at_rule)
    unfolding Good
    pair_good = good q.at_rule pair_rule

    pub pair_left_term : is_term p (pair_left p q) ≡ true
    unfolding pair_left
    pair_left_term = pair_good.left_term

    pub pair_right_term : is_term p (pair_right p q) ≡ true
    pair_right_term = pair_right_has (subterms_terms p _ (term_well p _ pair_good.right_term))

    pub pair_left_small : variables_below 16 (pair_left p q) ≡ true
    unfolding pair_left
    pair_left_small = pair_good.left_small

    pub pair_right_small : variables_below 16 (pair_right p q) ≡ true
    pair_right_small = pair_right_has (subterms_below 16 _ pair_good.right_small)

    pub pair_no_new : (v : ℕ) → member v (variables (pair_right p q)) ≡ true → member v (variables (pair_left p q)) ≡ true
    unfolding pair_left
    pair_no_new v h = all_in_member _ _ pair_good.no_new v (pair_right_has (subterms_variables _) v h)
