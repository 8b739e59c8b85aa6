-- How the name of a file is shown, so that it fills one line and is no other's.
use Rattle.std.specs.Prelude.{◌≡◌, Bool, not, ◌&&◌, cond, List, [], ◌∷◌, ◌++◌, ℕ, ◌+◌, ◌/◌, ◌%◌, ◌≤◌, ◌<◌, leb, eqb, length, get_or}

-- a byte that stands for itself: no control byte, and no backslash
unfoldable pub plain : ℕ → Bool
plain c = leb 32 c && not (eqb c 92) && not (eqb c 127)

-- any other is a backslash and three octal digits
unfoldable pub escaped : ℕ → List ℕ
escaped c = 92 ∷ (48 + c / 64) ∷ (48 + c / 8 % 8) ∷ (48 + c % 8) ∷ []

unfoldable pub shown_byte : ℕ → List ℕ
shown_byte c = cond (plain c) (c ∷ []) (escaped c)

unfoldable pub shown : List ℕ → List ℕ
shown [] = []
shown (c ∷ cs) = shown_byte c ++ shown cs

-- WHAT IT MEANS
-- a shown name has no byte below the blank, no line end among them, so it fills one line
abbrev pub FillsOneLine : Type 0
FillsOneLine = (name : List ℕ) → (i : ℕ) → i < length (shown name) → 32 ≤ get_or (shown name) i 0

-- no two names are shown alike
abbrev pub ShownApart : Type 0
ShownApart = (name other : List ℕ) → shown name ≡ shown other → name ≡ other
