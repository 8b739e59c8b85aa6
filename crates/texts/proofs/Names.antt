-- Names: `same` decides equality, and what `among` says of a list of names.
use mathlib.Core.Path.{◌≡◌, refl}
use mathlib.Core.Bool.{Bool, true, false, ◌||◌, false≢true}
use mathlib.Core.List.{List, [], ◌∷◌, ◌++◌}
use lib.Dec.{eqb}
use borrow.Author.Tests.{eqb-true, eq-eqb}
use Rattle.rewriting.proofs.Basics.{and_left, and_right, and_both}
use Rattle.texts.specs.Tokens.{Name}
use Rattle.texts.specs.Spelling.{same, among}

pub same_refl : (n : Name) → same n n ≡ true
unfolding same
same_refl [] = refl
same_refl (c ∷ cs) = and_both (eq-eqb c c refl) (same_refl cs)

pub same_eq : (n m : Name) → same n m ≡ true → n ≡ m
unfolding same
same_eq [] [] h = refl
same_eq [] (d ∷ ds) h = absurd (false≢true h)
same_eq (c ∷ cs) [] h = absurd (false≢true h)
same_eq (c ∷ cs) (d ∷ ds) h =
    let head : c ≡ d = eqb-true c d (and_left _ _ h) in
    let tail : cs ≡ ds = same_eq cs ds (and_right (eqb c d) _ h) in
    rw (head, tail)

pub among_append : (n : Name) (ms ks : List Name) → among n (ms ++ ks) ≡ among n ms || among n ks
unfolding among
among_append n [] ks = refl
among_append n (m ∷ ms) ks = rw (among_append n ms ks) (or_assoc (same n m) (among n ms) (among n ks))
  where
    or_assoc : (a b c : Bool) → a || (b || c) ≡ (a || b) || c
    or_assoc true b c = refl
    or_assoc false b c = refl
