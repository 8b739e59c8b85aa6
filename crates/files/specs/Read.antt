-- What reading a file answers.
use Rattle.std.specs.Prelude.{ℕ, ◌<◌, List, length, take, Option, Result, Ok, Err, ⊤}
use Rattle.std.specs.declared.io.Error.{Error}
use Rattle.std.specs.Io.KnownBytes.{Consumes, IsAtEnd}

-- reads of a reader whose bytes are known, until the buffer is full or the end: the bytes stand at its start, and where they do not fill it
-- no more are left
abbrev pub TakesAll : (before after : Option (List ℕ)) → Result ℕ Error → List ℕ → Type 0
TakesAll before after (Ok n) buf = Consumes before after (take n buf) × (n < length buf → IsAtEnd after)
TakesAll before after (Err error) buf = ⊤
