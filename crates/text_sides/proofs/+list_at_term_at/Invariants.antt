-- `text_sides::term_at` and `list_at`, which call each other. The bytes left fall: twice them, and one more for the list, which calls where
-- it stands. The loop's invariant: of every list that stands here, some arguments are read, and one more is due.
use mathlib.Core.Path.{◌≡◌}
use mathlib.Core.List.{List, ◌∷◌, ◌++◌}
use Prim.Native.Nat.{◌+◌, ◌*◌, ◌-◌, ◌≤◌}
use lib.ListN.{length}
use Rattle.packs.specs.PackReading.{most_nodes}
use Rattle.texts.specs.Tokens.{Token, closes}
use Rattle.texts.specs.Spelling.{ListPhrase, spelled}
use Rattle.text_tokens.specs.Told.{tokens_at}
use Rattle.text_sides.specs.Sides.{PlacesKept}
use Rattle.text_sides.proofs.Turns.{Left}
use Rattle.text_sides.proofs.+list_at_term_at.Given as goal

abbrev pub decreases-list_at : goal.decreases-list_at
decreases-list_at l = 2 * (length l.text.now - l.at) + 1

abbrev pub decreases-term_at : goal.decreases-term_at
decreases-term_at l = 2 * (length l.text.now - l.at)

abbrev pub invariant-list_at-loop-term : goal.invariant-list_at-loop-term
invariant-list_at-loop-term l = record {
  forth : l.at ≤ l.i;
  within : l.i ≤ length l.text;
  counted : l.have + l.arguments ≤ l.names;
  few : l.names ≤ most_nodes;
  kept : PlacesKept l.text l.found l.names;
  left :
      (ps : ListPhrase) (rest : List Token) → tokens_at l.text l.at ≡ spelled ps ++ (closes ∷ rest) →
      Left l.text l.have l.initial.found ps rest l.i l.names l.arguments l.found;
}

abbrev pub decreases-list_at-loop-term : goal.decreases-list_at-loop-term
decreases-list_at-loop-term l = length l.text - l.i
