-- What the libraries lack on tests and lists, and nothing about terms: what a test that came out tells of its parts,
-- and `Each`, a property of every element of a list.
use mathlib.Core.Path.{◌≡◌, refl, sym, ◌∙◌}
use mathlib.Core.Bool.{Bool, true, false, ◌&&◌, ◌||◌, cond, true≢false, false≢true}
use mathlib.Core.Logic.{◌⊎◌, inl, inr}
use mathlib.Core.List.{List, [], ◌∷◌, ◌++◌}
use Prim.Native.Nat.{ℕ, zero, suc, ◌-◌, ◌≤◌, ◌<◌}
use native.Mathlib.Nat.{le_of_suc-le-suc, suc-sub-suc, sub-zero}
use native.Mathlib.Omega.{arith}
use lib.ListN.{length, get_or}

-- TESTS

-- cases on a test, each with its equation
pub by_test {ℓ} : {C : Type ℓ} (b : Bool) → (b ≡ true → C) → (b ≡ false → C) → C
by_test true holds fails = holds refl
by_test false holds fails = fails refl

pub not_both : (b : Bool) → b ≡ true → b ≡ false → ⊥
not_both b h k = true≢false (sym h ∙ k)

-- two tests are equal if each holds where the other does
pub same_test : (a b : Bool) → (a ≡ true → b ≡ true) → (b ≡ true → a ≡ true) → a ≡ b
same_test true b h k = sym (h refl)
same_test false true h k = k refl
same_test false false h k = refl

pub and_left : (a b : Bool) → a && b ≡ true → a ≡ true
and_left true b h = refl
and_left false b h = h

pub and_right : (a b : Bool) → a && b ≡ true → b ≡ true
and_right true b h = h
and_right false b h = absurd (false≢true h)

pub and_both : {a b : Bool} → a ≡ true → b ≡ true → a && b ≡ true
and_both h k = rw (h, k)

pub and_cases : (a b : Bool) → a && b ≡ false → (a ≡ false) ⊎ (b ≡ false)
and_cases true b h = inr h
and_cases false b h = inl refl

pub or_left_false : (a b : Bool) → a || b ≡ false → a ≡ false
or_left_false true b h = h
or_left_false false b h = refl

pub or_right_false : (a b : Bool) → a || b ≡ false → b ≡ false
or_right_false true b h = absurd (true≢false h)
or_right_false false b h = h

pub or_both_false : {a b : Bool} → a ≡ false → b ≡ false → a || b ≡ false
or_both_false h k = rw (h, k)

pub or_cases : (a b : Bool) → a || b ≡ true → (a ≡ true) ⊎ (b ≡ true)
or_cases true b h = inl refl
or_cases false b h = inr h

pub or_left : {a : Bool} (b : Bool) → a ≡ true → a || b ≡ true
or_left b h = rw h

pub or_right : (a : Bool) {b : Bool} → b ≡ true → a || b ≡ true
or_right true h = refl
or_right false h = h

-- `search ands` proves any part of a conjunction that holds, `search ors` any part of a disjunction that fails
pub ruleset ands = (and_left, and_right)

pub ruleset ors = (or_left_false, or_right_false)

-- CHOICES: what `cond b x y` is, and what is known of b where the choice is known

module _ {ℓ} {A : Type ℓ} where
  pub cond_true : {b : Bool} (x y : A) → b ≡ true → cond b x y ≡ x
  cond_true x y h = rw h

  pub cond_false : {b : Bool} (x y : A) → b ≡ false → cond b x y ≡ y
  cond_false x y h = rw h

  pub cond_cases : (b : Bool) (x y : A) {z : A} → cond b x y ≡ z → ((b ≡ true) × (x ≡ z)) ⊎ ((b ≡ false) × (y ≡ z))
  cond_cases true x y h = inl (refl, h)
  cond_cases false x y h = inr (refl, h)

  -- the choice cannot have been the second, or not the first
  pub cond_first : (b : Bool) (x y : A) {z : A} → (y ≡ z → ⊥) → cond b x y ≡ z → (b ≡ true) × (x ≡ z)
  cond_first true x y other h = (refl, h)
  cond_first false x y other h = absurd (other h)

  pub cond_second : (b : Bool) (x y : A) {z : A} → (x ≡ z → ⊥) → cond b x y ≡ z → (b ≡ false) × (y ≡ z)
  cond_second true x y other h = absurd (other h)
  cond_second false x y other h = (refl, h)

-- LISTS

pub get_d_append_right {ℓ} : {A : Type ℓ} (xs ys : List A) (n : ℕ) (d : A) → length xs ≤ n → get_or (xs ++ ys) n d ≡ get_or ys (n - length xs) d
get_d_append_right [] ys n d h = rw sub-zero
get_d_append_right (x ∷ xs) ys zero d h = absurd (omega arith)
get_d_append_right (x ∷ xs) ys (suc n) d h = get_d_append_right xs ys n d (le_of_suc-le-suc h) ∙ rw suc-sub-suc

-- every element has the property P
pub data Each {A : Type 0} (P : A → Type 0) : List A → Type 0 where
  each_nil : Each P []
  each_cons : (x : A) (xs : List A) → P x → Each P xs → Each P (x ∷ xs)

module _ {A : Type 0} {P : A → Type 0} where
  pub each_head : {x : A} {xs : List A} → Each P (x ∷ xs) → P x
  each_head (each_cons x xs h hs) = h

  pub each_tail : {x : A} {xs : List A} → Each P (x ∷ xs) → Each P xs
  each_tail (each_cons x xs h hs) = hs

  pub each_append : {xs ys : List A} → Each P xs → Each P ys → Each P (xs ++ ys)
  each_append each_nil k = k
  each_append (each_cons x xs h hs) k = each_cons x _ h (each_append hs k)

  pub each_left : (xs ys : List A) → Each P (xs ++ ys) → Each P xs
  each_left [] ys h = each_nil
  each_left (x ∷ xs) ys h = each_cons x xs (each_head h) (each_left xs ys (each_tail h))

  pub each_right : (xs ys : List A) → Each P (xs ++ ys) → Each P ys
  each_right [] ys h = h
  each_right (x ∷ xs) ys h = each_right xs ys (each_tail h)

  -- by the elements' numbers, whatever stands for those past the end
  pub each_at : (d : A) {l : List A} → Each P l → (k : ℕ) → k < length l → P (get_or l k d)
  each_at d each_nil k h = absurd (omega arith)
  each_at d (each_cons x xs p ps) zero h = p
  each_at d (each_cons x xs p ps) (suc k) h = each_at d ps k (le_of_suc-le-suc h)

  pub each_by : (d : A) (l : List A) → ((k : ℕ) → k < length l → P (get_or l k d)) → Each P l
  each_by d [] f = each_nil
  each_by d (x ∷ xs) f = each_cons x xs (f zero (omega arith)) (each_by d xs (λ k h. f (suc k) (omega arith)))

  pub each_map : {Q : A → Type 0} → ((x : A) → P x → Q x) → {l : List A} → Each P l → Each Q l
  each_map f each_nil = each_nil
  each_map f (each_cons x xs h hs) = each_cons x xs (f x h) (each_map f hs)
