-- P records rise by (rule, place), W and M records by (a, b): strictly, by two numbers.
use Rattle.std.specs.Prelude.{Bool, true, ◌&&◌, ◌||◌, List, [], ◌∷◌, ℕ, ltb, eqb}

-- (a, b) stands below (c, d)
unfoldable pub rises : (a b c d : ℕ) → Bool
rises a b c d = ltb a c || (eqb a c && ltb b d)

-- the last of a list, if there is one, stands below (a, b)
unfoldable pub last_below : {A : Type 0} (first second : A → ℕ) → List A → (a b : ℕ) → Bool
last_below f g [] a b = true
last_below f g (x ∷ []) a b = rises (f x) (g x) a b
last_below f g (x ∷ y ∷ xs) a b = last_below f g (y ∷ xs) a b

unfoldable pub rising : {A : Type 0} (first second : A → ℕ) → List A → Bool
rising f g [] = true
rising f g (x ∷ []) = true
rising f g (x ∷ y ∷ xs) = rises (f x) (g x) (f y) (g y) && rising f g (y ∷ xs)
