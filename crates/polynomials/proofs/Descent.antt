-- Strong normalization by one more measure: a number that never rises along R and falls behind some elements, the others
-- being known to end among themselves.
use mathlib.Core.Path.{◌≡◌}
use mathlib.Core.Bool.{Bool, true, false}
use Prim.Native.Nat.{ℕ, zero, suc, ◌≤◌, ◌<◌}
use native.Mathlib.Nat.{lt-suc_self}
use native.Mathlib.Omega.{arith}
use Rattle.rewriting.specs.Termination.{SN, sn}
use Rattle.rewriting.proofs.Basics.{by_test}

-- C holds of all that is looked at; S is what R does between elements behind which the number need not fall
pub record Descending {A : Type 0} (R S : A → A → Type 0) (C : A → Type 0) (number : A → ℕ) (falls : A → Bool) : Type 0 where
  pub stays : (x y : A) → C x → R x y → C y
  pub never_rises : (x y : A) → C x → R x y → number y ≤ number x
  pub falls_behind : (x y : A) → C x → falls x ≡ true → R x y → number y < number x
  pub otherwise : (x y : A) → C x → R x y → falls y ≡ false → S x y

module _ {A : Type 0} {R S : A → A → Type 0} {C : A → Type 0} {number : A → ℕ} {falls : A → Bool} (d : Descending R S C number falls) where
  -- what has a number below n being known to end, so does what has the number n
  module _ (n : ℕ) (smaller : (x : A) → C x → number x < n → SN R x) where
    -- behind an element that falls the number is smaller
    falling : (x : A) → C x → falls x ≡ true → number x < suc n → SN R x
    falling x c e b = sn x (λ y r. smaller y (d.stays x y c r) (let less = d.falls_behind x y c e r in omega arith))

    -- from one that does not fall R leads to one that falls, or as S does
    onward : (x y : A) → C x → number x < suc n → R x y → (S x y → C y → number y < suc n → SN R y) → SN R y
    onward x y c b r follow =
        let less = d.never_rises x y c r in
        let bound : number y < suc n = omega arith in
        by_test (falls y) (λ e. falling y (d.stays x y c r) e bound) (λ e. follow (d.otherwise x y c r e) (d.stays x y c r) bound)

    staying : {x : A} → SN S x → C x → number x < suc n → SN R x
    staying (sn x h) c b = sn x (λ y r. onward x y c b r (λ s. staying (h y s)))

  module _ (rest : (x : A) → C x → falls x ≡ false → SN S x) where
    below : (n : ℕ) (x : A) → C x → number x < n → SN R x
    below zero x c b = absurd (omega arith)
    below (suc n) x c b =
        by_test (falls x) (λ e. falling n (below n) x c e b) (λ e. staying n (below n) (rest x c e) c b)

    pub descent : (x : A) → C x → SN R x
    descent x c = below (suc (number x)) x c (lt-suc_self (number x))
