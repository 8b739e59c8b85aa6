-- `records::word_at` meets its contract: the eight bytes' number, whose fields are those that the bytes give.
use native.Mathlib.Omega.{arith}
use Rattle.records.proofs.Words.{word_by_bytes, is_word}
use Rattle.records.proofs.word_at.Goals as goal

pub returns : goal.returns
returns c = is_word c.args.s.now c.all_bytes.ensures c.args.i (omega (arith, word_by_bytes c.args.s.now c.args.i, c.from_le_bytes.ensures))
