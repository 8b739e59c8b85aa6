-- Comparing two lists number by number: each is at least the other's exactly if that holds of each pair of them.
use mathlib.Core.Path.{◌≡◌, refl, sym}
use mathlib.Core.Bool.{Bool, true, false, and-false}
use mathlib.Core.List.{List, [], ◌∷◌}
use Prim.Native.Nat.{ℕ, zero, suc, ◌≤◌, ◌<◌}
use native.Mathlib.Omega.{arith}
use lib.ListN.{length}
use borrow.Author.Tests.{lt-leb, le-leb}
use Rattle.std.specs.Bool.{MatchBool}
use Rattle.std.specs.List.{zip, AllWithin, HoldsAt}
use Rattle.polynomials.specs.Polynomials.{each_at_least}

abbrev pub Least : ℕ × ℕ → Type 0
Least p = p.1 ≤ p.0

abbrev pub Less : ℕ × ℕ → Type 0
Less p = p.0 < p.1

all_least : (xs ys : List ℕ) → AllWithin Least (zip xs ys) 0 (length (zip xs ys)) → each_at_least xs ys ≡ true
unfolding each_at_least
all_least [] ys h = refl
all_least (x ∷ xs) [] h = refl
all_least (x ∷ xs) (y ∷ ys) h =
    rw (le-leb y x (h 0 (x, y) (omega arith) (omega arith))) (all_least xs ys (λ k d l u. h (suc k) d (omega arith) (omega arith)))

one_less : (xs ys : List ℕ) (k : ℕ) → k < length (zip xs ys) → HoldsAt Less (zip xs ys) k → each_at_least xs ys ≡ false
unfolding each_at_least
one_less [] ys k l h = absurd (omega arith)
one_less (x ∷ xs) [] k l h = absurd (omega arith)
one_less (x ∷ xs) (y ∷ ys) zero l h = rw (lt-leb y x (h (x, y)))
one_less (x ∷ xs) (y ∷ ys) (suc k) l h = rw (one_less xs ys k (omega arith) h) (and-false _)

pub by_pairs : (r : Bool) (xs ys : List ℕ) →
    MatchBool r (AllWithin Least (zip xs ys) 0 (length (zip xs ys))) ((k : ℕ) × (k < length (zip xs ys)) × HoldsAt Less (zip xs ys) k) → r ≡ each_at_least xs ys
by_pairs true xs ys h = sym (all_least xs ys h)
by_pairs false xs ys (k, l, h) = sym (one_less xs ys k l h)
