-- Chains of dependency pairs, and what it is that a system terminates.
use Rattle.std.specs.Prelude.{◌≡◌, true}
use Rattle.rewriting.specs.Terms.{Tree, System, is_term, Substitution, substituted, Over}
use Rattle.rewriting.specs.Steps.{Strategy, Step, Steps}
use Rattle.rewriting.specs.Termination.{SN}
use Rattle.rewriting.specs.Pairs.{Pair, pair_left, pair_right, is_pair, same_root, arguments}

-- one link of a chain: a pair with a substitution of its own
pub record Link : Type 0 where
  pub pair : Pair
  pub by : Substitution

pub record Valid (p : System) (m : Strategy) (x : Link) : Type 0 where
  pub is : is_pair p x.pair ≡ true
  pub over : Over p x.by
  pub allowed : m x.pair.at_rule x.by

-- y may come after x: the tuple symbols are the same, and x's right derives to y's left in zero or more steps below the root
pub record Next (p : System) (m : Strategy) (x y : Link) : Type 0 where
  pub valid : Valid p m y
  pub roots : same_root (pair_right p x.pair) (pair_left p y.pair) ≡ true
  pub derives :
      Steps (Step p m) (substituted x.by (arguments (pair_right p x.pair))) (substituted y.by (arguments (pair_left p y.pair)))

-- all derivations from all terms end
unfoldable pub Terminating : System → Strategy → Type 0
Terminating p m = (t : Tree) → is_term p t ≡ true → SN (Step p m) t

-- all chains end, from each pair under each substitution
unfoldable pub ChainsTerminating : System → Strategy → Type 0
ChainsTerminating p m = (x : Link) → Valid p m x → SN (Next p m) x
