-- The tests of lists by which the judging goes: `any`, and `without` with `is_none`, by places and by membership.
use mathlib.Core.Path.{◌≡◌, refl}
use mathlib.Core.Bool.{Bool, true, false, ◌||◌, or-true, cond, false≢true}
use mathlib.Core.Logic.{◌↔◌}
use mathlib.Core.List.{List, [], ◌∷◌, Memᴰ}
use Prim.Native.Nat.{ℕ, zero, suc, ◌<◌}
use native.Mathlib.Omega.{arith}
use lib.ListN.{length, get_or}
use Rattle.rewriting.proofs.Basics.{ors, or_both_false}
use Rattle.polynomials.specs.Judging.{any, without, is_none}

-- a list of which the test says so is empty
pub none_is : {A : Type 0} (xs : List A) → is_none xs ≡ true → xs ≡ []
unfolding is_none
none_is [] h = refl
none_is (x ∷ xs) h = absurd (false≢true h)

none_left : {A : Type 0} (b : Bool) (x : A) (xs : List A) → is_none (cond b xs (x ∷ xs)) ≡ true → (b ≡ true) × (is_none xs ≡ true)
unfolding is_none
none_left true x xs h = (refl, h)
none_left false x xs h = absurd (false≢true h)

module _ {A : Type 0} (test : A → Bool) (d : A) where
  any_false_at : (xs : List A) → any test xs ≡ false → (i : ℕ) → i < length xs → test (get_or xs i d) ≡ false
  unfolding any
  any_false_at [] h i k = absurd (omega arith)
  any_false_at (x ∷ xs) h zero k = search ors
  any_false_at (x ∷ xs) h (suc i) k = any_false_at xs (search ors) i (omega arith)

  any_false_by : (xs : List A) → ((i : ℕ) → i < length xs → test (get_or xs i d) ≡ false) → any test xs ≡ false
  unfolding any
  any_false_by [] h = refl
  any_false_by (x ∷ xs) h = or_both_false (h 0 (omega arith)) (any_false_by xs (λ i k. h (suc i) (omega arith)))

  all_leave_at : (xs : List A) → is_none (without test xs) ≡ true → (i : ℕ) → i < length xs → test (get_or xs i d) ≡ true
  unfolding without is_none
  all_leave_at [] h i k = absurd (omega arith)
  all_leave_at (x ∷ xs) h zero k = (none_left (test x) x (without test xs) h).0
  all_leave_at (x ∷ xs) h (suc i) k = all_leave_at xs (none_left (test x) x (without test xs) h).1 i (omega arith)

  all_leave_by : (xs : List A) → ((i : ℕ) → i < length xs → test (get_or xs i d) ≡ true) → is_none (without test xs) ≡ true
  unfolding without is_none
  all_leave_by [] h = refl
  all_leave_by (x ∷ xs) h = rw (h 0 (omega arith)) (all_leave_by xs (λ i k. h (suc i) (omega arith)))

  abbrev There : List A → Type 0
  There ys = (i : ℕ) × (i < length ys) × (test (get_or ys i d) ≡ true)

  any_true_at : (xs : List A) → any test xs ≡ true → There xs
  unfolding any
  any_true_at [] h = absurd (false≢true h)
  any_true_at (x ∷ xs) h = go (λ k. any_true_at xs k) (test x) refl h
    where
      go : (any test xs ≡ true → There xs) → (b : Bool) → test x ≡ b → b || any test xs ≡ true → There (x ∷ xs)
      go rest true e k = (0, omega arith, e)
      go rest false e k = let there = rest k in (suc there.0, omega (arith, there.1), there.2)

  any_true_by : (xs : List A) (i : ℕ) → i < length xs → test (get_or xs i d) ≡ true → any test xs ≡ true
  unfolding any
  any_true_by [] i k h = absurd (omega arith)
  any_true_by (x ∷ xs) zero k h = rw h
  any_true_by (x ∷ xs) (suc i) k h = rw (any_true_by xs i (omega arith) h) (or-true (test x))

  module _ (xs : List A) {P : ℕ → Type 0} where
    -- some element passes a test whose passing means P
    pub some_pass :
        ((i : ℕ) → i < length xs → (test (get_or xs i d) ≡ true) ↔ P i) → (any test xs ≡ true) ↔ ((i : ℕ) × (i < length xs) × P i)
    some_pass means = (
      λ h. let there = any_true_at xs h in (there.0, there.1, (means _ there.1).0 there.2),
      λ h. any_true_by xs h.0 h.1 ((means _ h.1).1 h.2),
    )

    -- no element passes a test whose failing means P
    pub none_pass : ((i : ℕ) → i < length xs → (test (get_or xs i d) ≡ false) ↔ P i) → (any test xs ≡ false) ↔ ((i : ℕ) → i < length xs → P i)
    none_pass means = (λ h i k. (means i k).0 (any_false_at xs h i k), λ h. any_false_by xs (λ i k. (means i k).1 (h i k)))

    -- every element leaves by a test whose passing means P
    pub all_leave :
        ((i : ℕ) → i < length xs → (test (get_or xs i d) ≡ true) ↔ P i) → (is_none (without test xs) ≡ true) ↔ ((i : ℕ) → i < length xs → P i)
    all_leave means = (λ h i k. (means i k).0 (all_leave_at xs h i k), λ h. all_leave_by xs (λ i k. (means i k).1 (h i k)))

module _ {A : Type 0} (test : A → Bool) where
  -- no element passes, so this one does not
  pub any_false_mem : {x : A} {xs : List A} → Memᴰ x xs → any test xs ≡ false → test x ≡ false
  unfolding any
  any_false_mem (Memᴰ.head {x = y} {xs = ys} e) h = rw e (search ors)
  any_false_mem (Memᴰ.tail {x = y} {xs = ys} i) h = any_false_mem i (search ors)

  mem_cond : {x : A} (y : A) {xs : List A} (b : Bool) → Memᴰ x xs → Memᴰ x (cond b xs (y ∷ xs))
  mem_cond y true i = i
  mem_cond y false i = Memᴰ.tail i

  -- what fails the test stays
  pub without_keeps : {x : A} {xs : List A} → Memᴰ x xs → test x ≡ false → Memᴰ x (without test xs)
  unfolding without
  without_keeps (Memᴰ.head {x = y} {xs = ys} e) h = rw (rw e at h) (Memᴰ.head e)
  without_keeps (Memᴰ.tail {x = y} {xs = ys} i) h = mem_cond y (test y) (without_keeps i h)

-- the element at a place is a member
pub mem_at : {A : Type 0} (d : A) (xs : List A) (i : ℕ) → i < length xs → Memᴰ (get_or xs i d) xs
mem_at d [] i h = absurd (omega arith)
mem_at d (x ∷ xs) zero h = Memᴰ.head refl
mem_at d (x ∷ xs) (suc i) h = Memᴰ.tail (mem_at d xs i (omega arith))
