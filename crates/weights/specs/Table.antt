-- The table of weights as the code keeps it: nine cells for each symbol, its constant and then its arguments, and after them nine
-- for each tuple symbol.
use Rattle.std.specs.Prelude.{◌≡◌, List, ℕ, ◌+◌, ◌*◌, ◌≤◌, ◌<◌, length, get_or}
use Rattle.std.proofs.Common.{arith}
use Rattle.polynomials.specs.Polynomials.{Weight, weight}

-- where a symbol's cells begin, and a tuple symbol's
abbrev pub row : ℕ → ℕ
row f = 9 * f

abbrev pub marked_row : ℕ → ℕ
marked_row f = 576 + 9 * f

-- a symbol's nine cells, and a tuple symbol's, lie within the table
pub symbol_within : (f : ℕ) → f < 64 → row f + 8 < 1152
symbol_within f h = omega arith

pub marked_within : (f : ℕ) → f < 64 → marked_row f + 8 < 1152
marked_within f h = omega arith

-- the cells from `first` on hold f's weights
pub record RowIs (table : List ℕ) (first f : ℕ) (ws : List Weight) : Type 0 where
  pub inside : first + 8 < 1152
  pub are : (i : ℕ) → i ≤ 8 → get_or table (first + i) 0 ≡ weight ws f i

-- the cells from `base` on hold the weights of all symbols
pub record CellsAre (base : ℕ) (table : List ℕ) (ws : List Weight) : Type 0 where
  pub long : length table ≡ 1152
  pub are : (f i : ℕ) → f < 64 → i ≤ 8 → get_or table (base + (9 * f + i)) 0 ≡ weight ws f i

-- where the cells of the symbols begin, and those of the tuple symbols
abbrev pub plain_base : ℕ
plain_base = 0

abbrev pub marked_base : ℕ
marked_base = 576

abbrev pub TableIs : (table : List ℕ) → List Weight → Type 0
TableIs table ws = CellsAre plain_base table ws

abbrev pub MarkedIs : (table : List ℕ) → List Weight → Type 0
MarkedIs table ms = CellsAre marked_base table ms
