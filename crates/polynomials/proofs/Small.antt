-- Small terms: those whose variables all have a coefficient, as in the rules and pairs of a good system.
use mathlib.Core.Path.{◌≡◌}
use mathlib.Core.Bool.{true, false}
use mathlib.Core.List.{List, map}
use Prim.Native.Nat.{ℕ, ◌<◌}
use lib.ListN.{length, get_or}
use Rattle.rewriting.specs.Terms.{Tree, Rule, System, no_rule, rule, is_list}
use Rattle.rewriting.specs.Pairs.{Pair, pair_left, pair_right, is_pair}
use Rattle.rewriting.specs.Systems.{Good, variables_below}
use Rattle.rewriting.proofs.Basics.{Each, each_nil, each_cons, each_at, each_by}
use Rattle.rewriting.proofs.Trees.{term_not_list}
use Rattle.rewriting.proofs.Pairs.{pair_left_small, pair_right_small}
use Rattle.polynomials.specs.Judging.{Call, no_call}

-- a term whose variables are among 0 to 15
pub record SmallTerm (t : Tree) : Type 0 where
  pub term : is_list t ≡ false
  pub small : variables_below 16 t ≡ true

-- what the judging asks of rules and calls for its tests to mean what they should
pub record Small (rs : List Rule) (cs : List Call) : Type 0 where
  pub rule_lefts : (i : ℕ) → i < length rs → SmallTerm (get_or rs i no_rule).left
  pub rule_rights : (i : ℕ) → i < length rs → SmallTerm (get_or rs i no_rule).right
  pub call_lefts : (k : ℕ) → k < length cs → variables_below 16 (get_or cs k no_call).left ≡ true
  pub call_rights : (k : ℕ) → k < length cs → variables_below 16 (get_or cs k no_call).right ≡ true

-- the sides of a good system's rules
module _ (p : System) (good : Good p) (i : ℕ) (h : i < length p.rules) where
  pub left_small : SmallTerm (rule p i).left
  unfolding Good
  left_small = record { term = term_not_list p _ (good i h).left_term; small = (good i h).left_small }

  pub right_small : SmallTerm (rule p i).right
  unfolding Good
  right_small = record { term = term_not_list p _ (good i h).right_term; small = (good i h).right_small }

abbrev pub SmallRule : Rule → Type 0
SmallRule r = SmallTerm r.left × SmallTerm r.right

pub rules_small : (p : System) → Good p → Each SmallRule p.rules
unfolding rule
rules_small p good = each_by no_rule p.rules (λ i h. (left_small p good i h, right_small p good i h))

-- the two sides that a pair names
abbrev pub call : System → Pair → Call
call p q = record { left = pair_left p q; right = pair_right p q }

abbrev SmallCall : Call → Type 0
SmallCall c = (variables_below 16 c.left ≡ true) × (variables_below 16 c.right ≡ true)

module _ (p : System) (good : Good p) where
  calls_small : {qs : List Pair} → Each (λ q. is_pair p q ≡ true) qs → Each SmallCall (map (call p) qs)
  calls_small each_nil = each_nil
  calls_small (each_cons q qs h hs) = each_cons _ _ (pair_left_small p q h good, pair_right_small p q h good) (calls_small hs)

  -- such rules with any of its pairs
  pub good_small : {rs : List Rule} → Each SmallRule rs → (qs : List Pair) → Each (λ q. is_pair p q ≡ true) qs → Small rs (map (call p) qs)
  good_small rules qs h =
      record {
        rule_lefts = λ i l. (each_at no_rule rules i l).0;
        rule_rights = λ i l. (each_at no_rule rules i l).1;
        call_lefts = λ k l. (each_at no_call (calls_small h) k l).0;
        call_rights = λ k l. (each_at no_call (calls_small h) k l).1;
      }
