-- `text_tokens::is_word` meets its contract. The loop's invariant: the name is the word where what is left of it is what is left of the word.
use Rattle.std.proofs.Common.{◌≡◌, ◌+◌, drop}
use Rattle.texts.specs.Spelling.{same}
use Rattle.text_tokens.specs.Told.{name_at}
use Rattle.text_tokens.proofs.is_word.Given as goal

abbrev pub invariant-loop-i : goal.invariant-loop-i
invariant-loop-i l = same (name_at l.text l.s) l.word ≡ same (name_at l.text (l.s + l.i)) (drop l.i l.word)
