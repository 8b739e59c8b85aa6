-- What is taken from a list of pairs of files, and how a line is split.
use Rattle.std.specs.Prelude.{◌≡◌, Result, Ok, Err, Option, Some, None, List, ℕ, zero, suc, ◌+◌, ◌-◌, ◌≤◌, ◌<◌, length, get_or, take, drop, ⊤}
use Rattle.std.specs.Io.KnownBytes.{Consumes, IsAtEnd}
use Rattle.std.specs.declared.io.Error.{Error}
use Rattle.names.specs.Counts.{IsPrefixLen}
use Rattle.lists.specs.declared.Next.{Next}
use Rattle.lists.specs.declared.Taken.{Taken}
use Rattle.lists.specs.declared.Taken.TheVariants.{Line, Unended, Part, End}
use Rattle.lists.specs.declared.Window.{Window}

-- where the bytes stand that a read gave: all from the window's start on, however few; a read that failed is told with its error
abbrev pub FilledBy : Result ℕ Error → Result Window Error → Type 0
FilledBy (Ok n) r = r ≡ Ok (record { from = 0; to = n })
FilledBy (Err error) r = r ≡ Err error

-- what was read of a list stands at the window's start, all of it, and it is nothing only where the list has ended
pub record Filled (before after : Option (List ℕ)) (w : Window) (window : List ℕ) : Type 0 where
  pub starts : w.from ≡ 0
  pub are : Consumes before after (take w.to window)
  pub ended : w.to ≡ 0 → 0 < length window → IsAtEnd after

-- where the bytes stand that are still to be taken: as before, and the window too, where some were left
pub record Refilled (from to : ℕ) (before : List ℕ) (r : Window) (window : List ℕ) : Type 0 where
  pub ordered : r.from ≤ r.to
  pub within : r.to ≤ length window
  pub start_kept : from < to → r.from ≡ from
  pub end_kept : from < to → r.to ≡ to
  pub window_kept : from < to → window ≡ before

-- no more bytes were taken than the line holds, and no more are still to be taken than the window holds
pub record Stands (r : Next) (window line : List ℕ) : Type 0 where
  pub within : r.to ≤ length window
  pub held : IsPrefixLen r.bytes line

-- no byte b stands from a place on below another
abbrev pub NoneBetween : (b : ℕ) → List ℕ → ℕ → ℕ → Type 0
NoneBetween b bs from to = (j : ℕ) → from ≤ j → j < to → get_or bs j 0 ≡ b → ⊥

-- the first byte from `at` on that ends a line stands at k, below `end`
pub record EndsAt (ends : ℕ) (window : List ℕ) (at end k : ℕ) : Type 0 where
  pub from : at ≤ k
  pub below : k < end
  pub here : get_or window k 0 ≡ ends
  pub none_before : NoneBetween ends window at k

-- a line whose end stands in the window is taken as it stands there, and what comes after it is still to be taken
pub record Whole (window line : List ℕ) (at end k : ℕ) (r : Next) (after : List ℕ) : Type 0 where
  pub is_line : r.taken ≡ Line
  pub bytes_are : r.bytes ≡ k - at
  pub line_is : take (k - at) line ≡ take (k - at) (drop at window)
  pub goes_on : r.from ≡ k + 1
  pub up_to : r.to ≡ end
  pub window_kept : after ≡ window

-- what a list comes to where nothing is left of it: it ended after a line, or within one
unfoldable pub at_end : (bytes : ℕ) → Taken
at_end zero = End
at_end (suc n) = Unended

-- nothing is still to be taken
pub record Emptied (bytes : ℕ) (r : Next) : Type 0 where
  pub is : r.taken ≡ at_end bytes
  pub all : r.bytes ≡ bytes
  pub none : r.to ≡ 0

-- a list that has ended, after a line or within one, holds no more bytes, where they are known
abbrev pub HasEnded : Taken → (after : Option (List ℕ)) → Type 0
HasEnded End after = IsAtEnd after
HasEnded Unended after = IsAtEnd after
HasEnded Line after = ⊤
HasEnded Part after = ⊤

unfoldable pub tab : ℕ
tab = 9

-- a line's first tab
pub record First (line : List ℕ) (k : ℕ) : Type 0 where
  pub within : k < length line
  pub here : get_or line k 0 ≡ tab
  pub none_before : NoneBetween tab line 0 k

-- a line is two names with a tab between, neither of which is empty or holds a tab
pub record TwoNames (line : List ℕ) (k : ℕ) : Type 0 where
  pub first_name : 0 < k
  pub second_name : k + 1 < length line
  pub here : get_or line k 0 ≡ tab
  pub alone : (j : ℕ) → j < length line → get_or line j 0 ≡ tab → j ≡ k

-- the place of that tab, if the line is two names
unfoldable pub Splits : List ℕ → Option ℕ → Type 0
Splits line (Some k) = TwoNames line k
Splits line None = (k : ℕ) → TwoNames line k → ⊥
