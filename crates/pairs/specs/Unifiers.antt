-- What an arc asks for: a unifier (Arts and Giesl, Definition 18: t is connectable to v if REN(CAP(t)) and v are unifiable).
use Rattle.std.specs.Prelude.{◌≡◌, cond, List, [], ◌∷◌, ℕ, suc, ◌+◌, ◌≤◌, length}
use Rattle.rewriting.specs.Terms.{Tree, var, app, nil, cons, System, Substitution, substituted, Over}
use Rattle.rewriting.specs.Pairs.{subterms, defined}

-- REN(CAP(t)): t with a fresh variable for each variable occurrence and for each outermost subterm with a defined root. The
-- one at place k of t is variable n + k, so that no two are the same and none is below n.
unfoldable pub capped : System → (n : ℕ) → Tree → Tree
capped p n (var x) = var n
capped p n (app f ts) = cond (defined p f) (var n) (app f (capped p (suc n) ts))
capped p n nil = nil
capped p n (cons t ts) = cons (capped p n t) (capped p (n + length (subterms t)) ts)

-- the same below the root, as for the right side of a pair: its root stands for a tuple symbol, which no rule defines
unfoldable pub capped_below : System → (n : ℕ) → Tree → Tree
capped_below p n (var x) = var x
capped_below p n (app f ts) = app f (capped p n ts)
capped_below p n nil = nil
capped_below p n (cons t ts) = cons t ts

-- some substitution by terms over the system makes the two equal
pub record Unifiable (p : System) (t u : Tree) : Type 0 where
  pub by : Substitution
  pub over : Over p by
  pub equal : substituted by t ≡ substituted by u

-- numbers from n on and below m, each greater than the one before it
pub data RisingWithin : (n m : ℕ) → List ℕ → Type 0 where
  no_more : (n m : ℕ) → n ≤ m → RisingWithin n m []
  one_more : (n m x : ℕ) (xs : List ℕ) → n ≤ x → RisingWithin (suc x) m xs → RisingWithin n m (x ∷ xs)
