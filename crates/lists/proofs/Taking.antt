-- A line whose end stands in the window is taken as it stands there.
use mathlib.Core.Path.{◌≡◌, refl, sym, ap, subst, ◌∙◌}
use mathlib.Core.Logic.{◌⊎◌, inl, inr, ⊎_elim}
use mathlib.Core.Bool.{Bool, true, false}
use mathlib.Core.List.{List, [], ◌∷◌, ◌++◌}
use Prim.Native.Nat.{ℕ, ◌+◌, ◌-◌, ◌≤◌, ◌<◌}
use native.Mathlib.Nat.{eq-or-lt_of_le}
use native.Mathlib.Numerals.{add-one}
use native.Mathlib.Omega.{arith}
use lib.Dec.{ltb}
use lib.ListN.{length, get_or, set, take, drop, length-drop}
use lib.Seq.{take-suc, take-suc-set, get_or-drop}
use borrow.Author.Tests.{ltb-true, ltb-false}
use Rattle.lists.specs.declared.Window.{Window}
use Rattle.lists.specs.declared.Taken.TheVariants.{Line}
use Rattle.lists.specs.Lists.{NoneBetween, EndsAt, Whole, Refilled}
use Rattle.lists.proofs.Tabbing.{none_further}

-- all bytes taken so far stood in the window at first, one after the other
pub record Inside (ends : ℕ) (window₀ : List ℕ) (at end : ℕ) (window line : List ℕ) (from to bytes : ℕ) : Type 0 where
  pub window_kept : window ≡ window₀
  pub end_kept : to ≡ end
  pub moved : from ≡ at + bytes
  pub are : take bytes line ≡ take bytes (drop at window₀)
  pub none : NoneBetween ends window₀ at (at + bytes)

-- or nothing of what stood there at first ends a line
abbrev pub SoFar : (ends : ℕ) (window₀ : List ℕ) (at end : ℕ) (window line : List ℕ) (from to bytes : ℕ) → Type 0
SoFar ends w₀ at end w l from to bytes = Inside ends w₀ at end w l from to bytes ⊎ NoneBetween ends w₀ at end

pub at_first : (ends : ℕ) (w l : List ℕ) (at end : ℕ) → SoFar ends w at end w l at end 0
at_first ends w l at end =
    inl (record { window_kept = refl; end_kept = refl; moved = omega arith; are = refl; none = λ j h k e. omega (arith, h, k) })

-- where the window is used up, nothing in it ended a line
used_up : (ends : ℕ) (w₀ : List ℕ) (at end : ℕ) (w l : List ℕ) (from to bytes : ℕ) → to ≤ from → SoFar ends w₀ at end w l from to bytes → NoneBetween ends w₀ at end
used_up ends w₀ at end w l from to bytes past s =
    ⊎_elim
    (λ (i : Inside ends w₀ at end w l from to bytes). λ (j : ℕ) h k e. i.none j h (omega (arith, k, past, i.end_kept, i.moved)) e)
    (λ (n : NoneBetween ends w₀ at end). n)
    s

-- so no line's end stands there
none_there : (ends : ℕ) (w₀ : List ℕ) (at end k : ℕ) → NoneBetween ends w₀ at end → EndsAt ends w₀ at end k → ⊥
none_there ends w₀ at end k n e = n k e.from e.below e.here

-- a window of which some is left stands as it does
pub kept : (from to : ℕ) (w : List ℕ) → from ≤ to → to ≤ length w → Refilled from to w (record { from = from; to = to }) w
kept from to w ordered within =
    record { ordered = ordered; within = within; start_kept = λ h. refl; end_kept = λ h. refl; window_kept = λ h. refl }

module _ (ends : ℕ) (w₀ : List ℕ) (at end : ℕ) (fits : end ≤ length w₀) (w l w' : List ℕ) (from to bytes : ℕ) (r : Window)
    (s : SoFar ends w₀ at end w l from to bytes) (f : Refilled from to w r w') where
  -- where some of the window was left, the next byte is that of the window at first
  next_is : from < to → Inside ends w₀ at end w l from to bytes → get_or w' r.from 0 ≡ get_or w₀ (at + bytes) 0
  next_is h i =
      ap (λ (k : ℕ). get_or w' k 0) (f.start_kept h ∙ i.moved) ∙ ap (λ (x : List ℕ). get_or x (at + bytes) 0) (f.window_kept h ∙ i.window_kept)

  -- one byte more that ends no line
  one_more : from < to → Inside ends w₀ at end w l from to bytes → bytes < length l → (get_or w' r.from 0 ≡ ends → ⊥)
      → Inside ends w₀ at end w' (set l bytes (get_or w' r.from 0)) (r.from + 1) r.to (bytes + 1)
  one_more h i room other =
      let c : get_or w' r.from 0 ≡ get_or w₀ (at + bytes) 0 = next_is h i in
      let end_is : to ≡ end = i.end_kept in
      let place : from ≡ at + bytes = i.moved in
      let more : bytes < length (drop at w₀) = simp length-drop (omega arith) in
      let joined : take bytes l ++ (get_or w' r.from 0 ∷ []) ≡ take bytes (drop at w₀) ++ (get_or w₀ (at + bytes) 0 ∷ []) = rw (i.are, c) in
      let onward : at + bytes + 1 ≡ at + (bytes + 1) = omega arith in
      record {
        window_kept = f.window_kept h ∙ i.window_kept;
        end_kept = f.end_kept h ∙ i.end_kept;
        moved = omega (arith, f.start_kept h, i.moved);
        are =
            ap (λ (n : ℕ). take n (set l bytes (get_or w' r.from 0))) (add-one bytes)
            ∙ take-suc-set l bytes (get_or w' r.from 0) room
            ∙ joined
            ∙ ap (λ (x : ℕ). take bytes (drop at w₀) ++ (x ∷ [])) (sym (get_or-drop at w₀ bytes 0))
            ∙ sym (take-suc (drop at w₀) bytes 0 more)
            ∙ ap (λ (n : ℕ). take n (drop at w₀)) (sym (add-one bytes));
        none = subst (NoneBetween ends w₀ at) onward (none_further ends w₀ at (at + bytes) i.none (λ e. other (c ∙ e)));
      }

  pub still : bytes < length l → (get_or w' r.from 0 ≡ ends → ⊥)
      → SoFar ends w₀ at end w' (set l bytes (get_or w' r.from 0)) (r.from + 1) r.to (bytes + 1)
  still room other = by (ltb from to) refl
    where
      by : (b : Bool) → ltb from to ≡ b → SoFar ends w₀ at end w' (set l bytes (get_or w' r.from 0)) (r.from + 1) r.to (bytes + 1)
      by true q =
          ⊎_elim
          (λ (i : Inside ends w₀ at end w l from to bytes). inl (one_more (ltb-true from to q) i room other))
          (λ (n : NoneBetween ends w₀ at end). inr n)
          s
      by false q = inr (used_up ends w₀ at end w l from to bytes (ltb-false from to q) s)

  -- a window that could not be filled again had no line's end
  pub none_left : r.from ≡ r.to → (k : ℕ) → EndsAt ends w₀ at end k → ⊥
  none_left e k at_k = by (ltb from to) refl
    where
      by : (b : Bool) → ltb from to ≡ b → ⊥
      by true q = omega (arith, ltb-true from to q, f.start_kept (ltb-true from to q), f.end_kept (ltb-true from to q), e)
      by false q = none_there ends w₀ at end k (used_up ends w₀ at end w l from to bytes (ltb-false from to q) s) at_k

  -- the byte that ends a line is met at the first place where one stands
  met : Inside ends w₀ at end w l from to bytes → from < to → get_or w' r.from 0 ≡ ends → (k : ℕ) → EndsAt ends w₀ at end k → at + bytes ≡ k
  met i h here k at_k =
      ⊎_elim
      (λ (e : k ≡ at + bytes). sym e)
      (λ (below : k < at + bytes). absurd (i.none k at_k.from below at_k.here))
      (eq-or-lt_of_le (by (ltb (at + bytes) k) refl))
    where
      by : (b : Bool) → ltb (at + bytes) k ≡ b → k ≤ at + bytes
      by true q = absurd (at_k.none_before (at + bytes) (omega arith) (ltb-true (at + bytes) k q) (sym (next_is h i) ∙ here))
      by false q = ltb-false (at + bytes) k q

  as_it_stands : Inside ends w₀ at end w l from to bytes → from < to → (k : ℕ) → at + bytes ≡ k
      → Whole w₀ l at end k (record { taken = Line; bytes = bytes; from = r.from + 1; to = r.to }) w'
  as_it_stands i h k e =
      let n : bytes ≡ k - at = omega (arith, e) in
      record {
        is_line = refl;
        bytes_are = n;
        line_is = subst (λ (m : ℕ). take m l ≡ take m (drop at w₀)) n i.are;
        goes_on = omega (arith, e, f.start_kept h, i.moved);
        up_to = f.end_kept h ∙ i.end_kept;
        window_kept = f.window_kept h ∙ i.window_kept;
      }

  pub whole : get_or w' r.from 0 ≡ ends → (k : ℕ) → EndsAt ends w₀ at end k
      → Whole w₀ l at end k (record { taken = Line; bytes = bytes; from = r.from + 1; to = r.to }) w'
  whole here k at_k = by (ltb from to) refl
    where
      by : (b : Bool) → ltb from to ≡ b → Whole w₀ l at end k (record { taken = Line; bytes = bytes; from = r.from + 1; to = r.to }) w'
      by true q =
          ⊎_elim
          (λ (i : Inside ends w₀ at end w l from to bytes). as_it_stands i (ltb-true from to q) k (met i (ltb-true from to q) here k at_k))
          (λ (n : NoneBetween ends w₀ at end). absurd (none_there ends w₀ at end k n at_k))
          s
      by false q = absurd (none_there ends w₀ at end k (used_up ends w₀ at end w l from to bytes (ltb-false from to q) s) at_k)

-- a line that is full holds no whole line
pub too_long : (ends : ℕ) (w₀ : List ℕ) (at end : ℕ) (w l : List ℕ) (from to bytes : ℕ) → SoFar ends w₀ at end w l from to bytes → (k : ℕ) → EndsAt ends w₀ at end k → k - at < bytes → ⊥
too_long ends w₀ at end w l from to bytes s k at_k h =
    ⊎_elim
    (λ (i : Inside ends w₀ at end w l from to bytes). i.none k at_k.from (omega (arith, h, at_k.from)) at_k.here)
    (λ (n : NoneBetween ends w₀ at end). none_there ends w₀ at end k n at_k)
    s
