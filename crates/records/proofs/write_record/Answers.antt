-- `records::write_record` meets its contract: eight stores are a run of eight bytes.
use mathlib.Core.Path.{◌≡◌, ◌∙◌}
use mathlib.Core.List.{List, [], ◌∷◌, ◌++◌, append_assoc}
use Prim.Native.Nat.{ℕ, ◌+◌, ◌≤◌}
use native.Mathlib.Numerals.{add-one, add-two, add-three, add-four, add_five, add_six, add_seven}
use lib.ListN.{length, take, drop, set}
use lib.Seq.{sets-eq}
use Rattle.records.specs.Records.{record_bytes, low_two}
use Rattle.records.proofs.write_record.Goals as goal

eight_stores : (l : List ℕ) (at a b c d e f g h : ℕ) → at + 8 ≤ length l →
    set (set (set (set (set (set (set (set l at a) (at + 1) b) (at + 2) c) (at + 3) d) (at + 4) e) (at + 5) f) (at + 6) g) (at + 7) h
    ≡ take at l ++ ((a ∷ b ∷ c ∷ d ∷ e ∷ f ∷ g ∷ h ∷ []) ++ drop (at + 8) l)
eight_stores l at a b c d e f g h fits =
    rw (add-one at, add-two at, add-three at, add-four at, add_five at, add_six at, add_seven at)
    (sets-eq (a ∷ b ∷ c ∷ d ∷ e ∷ f ∷ g ∷ h ∷ []) l at fits ∙ append_assoc (take at l) _ (drop (at + 8) l))

pub returns : goal.returns
unfolding record_bytes low_two
returns c = eight_stores _ _ _ _ _ _ _ _ _ _ c.requires
