-- A file that has passed 1, for the contracts between our own functions.
use Rattle.std.specs.Prelude.{◌≡◌, List, ℕ, ◌%◌, ◌≤◌, length}

-- whole records, and no more bytes than its limit
pub record Whole (most : ℕ) (bytes : List ℕ) : Type 0 where
  pub whole : length bytes % 8 ≡ 0
  pub short : length bytes ≤ most
