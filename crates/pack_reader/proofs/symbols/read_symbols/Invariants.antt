-- `pack_reader::symbols::read_symbols` meets its contract. The loop's invariant: the steps of the records left, with the arities
-- kept so far before, are the steps of all.
use mathlib.Core.Path.{◌≡◌}
use mathlib.Core.List.{List}
use Prim.Native.Nat.{ℕ, ◌≤◌}
use lib.ListN.{length, take, drop}
use Rattle.records.specs.Outcomes.{Outcome, after}
use Rattle.records.specs.Records.{all_records}
use Rattle.records.specs.Rows.{row_number}
use Rattle.pack_reader.specs.Stored.{symbol_steps}
use Rattle.pack_reader.proofs.SymbolSteps.{with_arities}
use Rattle.pack_reader.proofs.symbols.read_symbols.Given as goal

-- what the records from the i-th on come to
abbrev pub steps_left : (pack : List ℕ) (last i : ℕ) → Outcome (List ℕ)
steps_left pack last i = symbol_steps last i (drop i (all_records pack))

-- THE INVARIANT

abbrev pub GoesOn : (pack arities : List ℕ) (last i : ℕ) → Type 0
GoesOn pack arities last i = after (steps_left pack last i) (with_arities (take i arities)) ≡ symbol_steps 0 0 (all_records pack)

abbrev pub invariant-loop-i : goal.invariant-loop-i
invariant-loop-i l = (l.i ≤ 64) × (length l.arities ≡ 64) × GoesOn l.pack l.arities (row_number l.last) l.i
