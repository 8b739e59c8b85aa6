-- The table as the code holds it: its columns are the letters from A on, the two ends of a file, and one for every other byte.
-- A row has a number for each state of the count, whose bit k says whether column k may come.
use Rattle.std.specs.Prelude.{◌≡◌, Bool, true, false, cond, ℕ, ◌+◌, ◌/◌, ◌%◌, ◌^◌, ◌<◌, eqb}
use Rattle.records.specs.Order.{pack_edge, certificate_edge, index, may_follow}
use Rattle.records.specs.declared.order.Row.{Row}
use Rattle.records.specs.declared.order.Before.{Before}
use Rattle.records.specs.declared.order.Before.TheVariants.{StartOfPack, Symbol, Rule, Application, Variable, StartOfComponents, Component, Pair, Weight, Marked, Weighting, Counting, Innermost, Other, StartOfCertificate}
use Rattle.records.specs.declared.order.End.{End}
use Rattle.records.specs.declared.order.End.TheVariants.{Pack, Certificate}

-- the definitions' row for what the code says stands before
abbrev pub row_number : Before → ℕ
row_number StartOfPack = 0
row_number Symbol = 1
row_number Rule = 2
row_number Application = 3
row_number Variable = 4
row_number StartOfComponents = 5
row_number Component = 6
row_number Pair = 7
row_number Weight = 8
row_number Marked = 9
row_number Weighting = 10
row_number Counting = 11
row_number Innermost = 12
row_number Other = 13
row_number StartOfCertificate = 14

-- the column of a file's end
abbrev pub edge : End → ℕ
edge Pack = pack_edge
edge Certificate = certificate_edge

-- the definitions' column for the code's
unfoldable pub column_at : ℕ → ℕ
column_at k = cond (eqb k 26) pack_edge (cond (eqb k 27) certificate_edge (index (65 + k)))

unfoldable pub bit : Bool → ℕ
bit true = 1
bit false = 0

-- the number of one state says of each column whether it may come
abbrev pub Says : (before due : ℕ) → (weighted : Bool) → (columns : ℕ) → Type 0
Says before due weighted columns = (k : ℕ) → k < 29 → columns / 2 ^ k % 2 ≡ bit (may_follow before (column_at k) due weighted)

pub record RowSays (before : ℕ) (row : Row) : Type 0 where
  pub lasts : Says before 1 false row.lasts
  pub done : Says before 0 false row.done
  pub weighted : Says before 0 true row.weighted
