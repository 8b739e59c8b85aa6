-- Showing a name byte by byte, in a buffer that grows.
use mathlib.Core.Path.{◌≡◌, refl, sym, ap, ◌∙◌}
use mathlib.Core.List.{List, [], ◌∷◌, ◌++◌, append_assoc, append-nil}
use Prim.Native.Nat.{ℕ, ◌+◌, ◌-◌, ◌*◌, ◌≤◌, ◌<◌, min}
use native.Mathlib.Numerals.{add-one}
use native.Mathlib.Omega.{arith}
use lib.ListN.{length, get_or, take}
use lib.Seq.{take-suc, take_all, paste, take-paste}
use Rattle.names.specs.Shown.{shown_byte, shown}

-- A NAME, BYTE BY BYTE

shown_append : (xs ys : List ℕ) → shown (xs ++ ys) ≡ shown xs ++ shown ys
unfolding shown
shown_append [] ys = refl
shown_append (x ∷ xs) ys = ap (λ (r : List ℕ). shown_byte x ++ r) (shown_append xs ys) ∙ sym (append_assoc (shown_byte x) (shown xs) (shown ys))

pub shown_further : (name : List ℕ) (i : ℕ) → i < length name → shown (take (i + 1) name) ≡ shown (take i name) ++ shown_byte (get_or name i 0)
unfolding shown
shown_further name i h =
    rw (add-one i, take-suc name i 0 h, shown_append (take i name) (get_or name i 0 ∷ []), append-nil (shown_byte (get_or name i 0)))

-- bytes for which there is room have been put, all of them
pub all_put : (d s l : List ℕ) (at r : ℕ) → at + length s ≤ length d → r ≡ at + min (length s) (length d - at) → l ≡ paste d at s (r - at)
    → take r l ≡ take at d ++ s
all_put d s l at r room ends puts =
    let whole : r - at ≡ length s = omega arith in
    let end : r ≡ at + length s = omega arith in
    rw (puts, whole, end, take-paste d at s (length s) (omega arith) (omega arith), take_all (length s) s (omega arith))

-- what a name's first i bytes are shown as stands in the buffer, where it has room for all of the name
pub record SoFar (name before now : List ℕ) (at end i : ℕ) : Type 0 where
  pub near : end ≤ at + 4 * i
  pub told : take end now ≡ take at before ++ shown (take i name)

pub none_yet : (name before : List ℕ) (at : ℕ) → SoFar name before before at at 0
unfolding shown
none_yet name before at = record { near = omega arith; told = sym (append-nil (take at before)) }

pub one_more : (name before now₁ now₂ : List ℕ) (at end r i : ℕ) → i < length name → SoFar name before now₁ at end i
    → take r now₂ ≡ take end now₁ ++ shown_byte (get_or name i 0) → r ≤ end + 4 → SoFar name before now₂ at r (i + 1)
one_more name before now₁ now₂ at end r i h s e n =
    record {
      near = omega (arith, s.near, n);
      told =
          e
          ∙ ap (λ (x : List ℕ). x ++ shown_byte (get_or name i 0)) s.told
          ∙ append_assoc (take at before) (shown (take i name)) (shown_byte (get_or name i 0))
          ∙ ap (λ (x : List ℕ). take at before ++ x) (sym (shown_further name i h));
    }
