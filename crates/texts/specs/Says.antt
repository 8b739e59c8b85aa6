-- Document 02's number and value for each answer to a text.
use Rattle.std.specs.Prelude.{◌≡◌, ℕ, length, Result}
use Rattle.rewriting.specs.Terms.{System}
use Rattle.records.specs.declared.Refusal.{Refusal}
use Rattle.records.specs.Outcomes.{Outcome, refused, passed}
use Rattle.records.specs.Answers.{outcome_of}
use Rattle.packs.specs.Encoding.{pack_bytes}

-- the text's refusal, or how many bytes its pack has
unfoldable pub length_outcome : Outcome System → Outcome ℕ
length_outcome (refused n) = refused n
length_outcome (passed p) = passed (length (pack_bytes p))

unfoldable pub ReadAs : Outcome System → Result ℕ Refusal → Type 0
ReadAs o r = outcome_of r ≡ length_outcome o
