-- A shown name fills one line, and no two names are shown alike.
use mathlib.Core.Path.{◌≡◌, refl, sym, ap, ◌∙◌}
use mathlib.Core.Bool.{Bool, true, false, not, ◌&&◌, cond, false≢true}
use mathlib.Core.List.{List, [], ◌∷◌, ◌++◌}
use Prim.Native.Nat.{ℕ, zero, suc, ◌+◌, ◌*◌, ◌/◌, ◌%◌, ◌≤◌, ◌<◌}
use native.Mathlib.Nat.{le_of_suc-le-suc}
use native.Mathlib.Omega.{arith}
use lib.Dec.{leb, eqb}
use lib.ListN.{length, get_or, drop}
use borrow.Author.Tests.{leb-true, eqb-false}
use Rattle.names.specs.Shown.{plain, escaped, shown_byte, shown, FillsOneLine, ShownApart}

-- what is used of a byte that stands for itself
record Stands (c : ℕ) : Type 0 where
  printable : 32 ≤ c
  no_backslash : c ≡ 92 → ⊥

three : (a b d : Bool) → a && not b && not d ≡ true → (a ≡ true) × (b ≡ false)
three true false d h = (refl, refl)
three true true d h = absurd (false≢true h)
three false b d h = absurd (false≢true h)

stands : (c : ℕ) → plain c ≡ true → Stands c
unfolding plain
stands c h =
    let t = three (leb 32 c) (eqb c 92) (eqb c 127) h in
    record { printable = leb-true 32 c t.0; no_backslash = eqb-false c 92 t.1 }

-- ONE LINE

Printable : List ℕ → Type 0
Printable xs = (i : ℕ) → i < length xs → 32 ≤ get_or xs i 0

-- in front of printable bytes
byte_printable : (b : Bool) (c : ℕ) → plain c ≡ b → (rest : List ℕ) → Printable rest → Printable (cond b (c ∷ []) (escaped c) ++ rest)
unfolding escaped Printable
byte_printable true c e rest ih zero h = (stands c e).printable
byte_printable true c e rest ih (suc i) h = ih i (le_of_suc-le-suc h)
byte_printable false c e rest ih zero h = omega arith
byte_printable false c e rest ih (suc zero) h = omega arith
byte_printable false c e rest ih (suc (suc zero)) h = omega arith
byte_printable false c e rest ih (suc (suc (suc zero))) h = omega arith
byte_printable false c e rest ih (suc (suc (suc (suc i)))) h = ih i (le_of_suc-le-suc (le_of_suc-le-suc (le_of_suc-le-suc (le_of_suc-le-suc h))))

printable_name : (name : List ℕ) → Printable (shown name)
unfolding Printable shown shown_byte
printable_name [] i h = absurd (omega (arith, h))
printable_name (c ∷ name) i h = byte_printable (plain c) c refl (shown name) (printable_name name) i h

pub fills_one_line : FillsOneLine
unfolding Printable
fills_one_line name = printable_name name

-- APART

octal : (c : ℕ) → 64 * (c / 64) + 8 * (c / 8 % 8) + c % 8 ≡ c
octal c = omega arith

digits_apart : (c d : ℕ) → 48 + c / 64 ≡ 48 + d / 64 → 48 + c / 8 % 8 ≡ 48 + d / 8 % 8 → 48 + c % 8 ≡ 48 + d % 8 → c ≡ d
digits_apart c d e₁ e₂ e₃ =
    let high = same (c / 64) (d / 64) e₁ in
    let middle = same (c / 8 % 8) (d / 8 % 8) e₂ in
    let low = same (c % 8) (d % 8) e₃ in
    let parts : 64 * (c / 64) + 8 * (c / 8 % 8) + c % 8 ≡ 64 * (d / 64) + 8 * (d / 8 % 8) + d % 8 = rw (high, middle, low) in
    sym (octal c) ∙ parts ∙ octal d
  where
    same : (x y : ℕ) → 48 + x ≡ 48 + y → x ≡ y
    same x y e = omega (arith, e)

-- a first byte, and what comes after it, from how they are shown
bytes_apart : (a b : Bool) (c d : ℕ) → plain c ≡ a → plain d ≡ b → (xs ys : List ℕ)
    → cond a (c ∷ []) (escaped c) ++ xs ≡ cond b (d ∷ []) (escaped d) ++ ys → (c ≡ d) × (xs ≡ ys)
unfolding escaped
bytes_apart true true c d p q xs ys h = (ap (λ (l : List ℕ). get_or l 0 0) h, ap (drop 1) h)
bytes_apart true false c d p q xs ys h = absurd ((stands c p).no_backslash (ap (λ (l : List ℕ). get_or l 0 0) h))
bytes_apart false true c d p q xs ys h = absurd ((stands d q).no_backslash (sym (ap (λ (l : List ℕ). get_or l 0 0) h)))
bytes_apart false false c d p q xs ys h = (
  digits_apart c d (ap (λ (l : List ℕ). get_or l 1 0) h) (ap (λ (l : List ℕ). get_or l 2 0) h) (ap (λ (l : List ℕ). get_or l 3 0) h),
  ap (drop 4) h,
)

-- what is shown of a byte is not nothing
some : (b : Bool) (c : ℕ) (xs : List ℕ) → [] ≡ cond b (c ∷ []) (escaped c) ++ xs → ⊥
unfolding escaped
some true c xs h = absurd (omega (arith, ap length h))
some false c xs h = absurd (omega (arith, ap length h))

pub shown_apart : ShownApart
unfolding shown shown_byte
shown_apart [] [] h = refl
shown_apart [] (d ∷ ys) h = absurd (some (plain d) d (shown ys) h)
shown_apart (c ∷ xs) [] h = absurd (some (plain c) c (shown xs) (sym h))
shown_apart (c ∷ xs) (d ∷ ys) h =
    let e = bytes_apart (plain c) (plain d) c d refl refl (shown xs) (shown ys) h in
    cons e.0 (shown_apart xs ys e.1)
  where
    cons : {c d : ℕ} {xs ys : List ℕ} → c ≡ d → xs ≡ ys → c ∷ xs ≡ d ∷ ys
    cons e f = rw (e, f)
