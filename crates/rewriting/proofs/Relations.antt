-- Any relation: what a strongly normalizing element excludes, and how SN and finite derivations pass from one relation to another.
use mathlib.Core.Path.{◌≡◌, refl}
use Prim.Native.Nat.{ℕ, suc}
use Rattle.rewriting.specs.Terms.{Tree}
use Rattle.rewriting.specs.Steps.{InContext, here, under, in_first, in_others, Steps, stay, move}
use Rattle.rewriting.specs.Termination.{SN, sn}

module _ {A : Type 0} {R : A → A → Type 0} where
  -- whatever a strongly normalizing element leads to is strongly normalizing
  pub sn_next : {t u : A} → SN R t → R t u → SN R u
  sn_next {u = u} (sn t h) r = h u r

  pub sn_steps : {t u : A} → SN R t → Steps R t u → SN R u
  sn_steps h (stay t) = h
  sn_steps h (move t u w r rs) = sn_steps (sn_next h r) rs

  -- what leads nowhere is strongly normalizing
  pub sn_none : (t : A) → ((u : A) → R t u → ⊥) → SN R t
  sn_none t stuck = sn t (λ u r. absurd (stuck u r))

  endless_from : {t : A} → SN R t → (s : ℕ → A) (n : ℕ) → s n ≡ t → ((n : ℕ) → R (s n) (s (suc n))) → ⊥
  endless_from (sn t h) s n e steps = endless_from (h (s (suc n)) (rw e at (steps n))) s (suc n) refl steps

  -- no endless sequence starts at a strongly normalizing element
  pub no_endless : {t : A} → SN R t → (s : ℕ → A) → s 0 ≡ t → ((n : ℕ) → R (s n) (s (suc n))) → ⊥
  no_endless h s e steps = endless_from h s 0 e steps

  pub no_loop : {t : A} → SN R t → R t t → ⊥
  no_loop (sn t h) r = no_loop (h t r) r

  pub one_step : {t u : A} → R t u → Steps R t u
  one_step {t} {u} r = move t u u r (stay u)

  pub steps_append : {t u w : A} → Steps R t u → Steps R u w → Steps R t w
  steps_append (stay t) k = k
  steps_append {w = w} (move t u x r rs) k = move t u w r (steps_append rs k)

-- along a map that takes steps of R to steps of S
module _ {A B : Type 0} {R : A → A → Type 0} {S : B → B → Type 0} (f : A → B) (map : (x y : A) → R x y → S (f x) (f y)) where
  along_from : {b : B} → SN S b → (x : A) → f x ≡ b → SN R x
  along_from (sn b h) x e = sn x (λ y r. along_from (h (f y) (rw e at (map x y r))) y refl)

  -- an element is strongly normalizing if its image is
  pub sn_along : (x : A) → SN S (f x) → SN R x
  sn_along x h = along_from h x refl

  pub steps_along : {x y : A} → Steps R x y → Steps S (f x) (f y)
  steps_along (stay x) = stay (f x)
  steps_along (move x y z r rs) = move (f x) (f y) (f z) (map x y r) (steps_along rs)

-- the same for a relation R that is included in S
module _ {A : Type 0} {R S : A → A → Type 0} (included : (x y : A) → R x y → S x y) where
  pub sn_by : {x : A} → SN S x → SN R x
  sn_by {x} h = sn_along (λ a. a) included x h

  pub steps_by : {x y : A} → Steps R x y → Steps S x y
  steps_by rs = steps_along (λ a. a) included rs

pub in_context_map : {R S : Tree → Tree → Type 0} → ((t u : Tree) → R t u → S t u) → {t u : Tree} → InContext R t u → InContext S t u
in_context_map g (here t u r) = here t u (g t u r)
in_context_map g (under f ts us r) = under f ts us (in_context_map g r)
in_context_map g (in_first t u ts r) = in_first t u ts (in_context_map g r)
in_context_map g (in_others t ts us r) = in_others t ts us (in_context_map g r)
