-- Rising lists from the front: the list so far rises, and its last element stands below the next.
use mathlib.Core.Path.{◌≡◌, refl}
use mathlib.Core.Bool.{true}
use mathlib.Core.List.{List, [], ◌∷◌, ◌++◌}
use Prim.Native.Nat.{ℕ}
use Rattle.rewriting.proofs.Basics.{and_left, and_right, and_both}
use Rattle.records.specs.Rising.{rises, last_below, rising}

module _ {A : Type 0} (f g : A → ℕ) where
  pub rising_snoc : (xs : List A) (x : A) → rising f g xs ≡ true → last_below f g xs (f x) (g x) ≡ true → rising f g (xs ++ (x ∷ [])) ≡ true
  unfolding rising last_below
  rising_snoc [] x h b = refl
  rising_snoc (y ∷ []) x h b = and_both b refl
  rising_snoc (y ∷ z ∷ xs) x h b =
      let first = rises (f y) (g y) (f z) (g z) in
      and_both (and_left first _ h) (rising_snoc (z ∷ xs) x (and_right first _ h) b)

  pub below_next : (xs : List A) (x : A) (ys : List A) → rising f g (xs ++ (x ∷ ys)) ≡ true → last_below f g xs (f x) (g x) ≡ true
  unfolding rising last_below
  below_next [] x ys h = refl
  below_next (y ∷ []) x ys h = and_left _ _ h
  below_next (y ∷ z ∷ xs) x ys h = below_next (z ∷ xs) x ys (and_right (rises (f y) (g y) (f z) (g z)) _ h)
