-- `text_reader::numbering::find` meets its contract. The loop's invariant: the name is not among the first i.
use mathlib.Core.Path.{◌≡◌}
use mathlib.Core.Bool.{false}
use Rattle.texts.specs.Spelling.{among}
use Rattle.text_tokens.specs.Told.{name_at}
use Rattle.text_reader.specs.Tables.{kept_names}
use Rattle.text_reader.proofs.numbering.find.Given as goal

abbrev pub invariant-loop-i : goal.invariant-loop-i
invariant-loop-i l = among (name_at l.text l.s) (kept_names l.text l.names l.i) ≡ false
