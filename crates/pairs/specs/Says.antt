-- Document 01's number and values for each case of the code's answers.
use Rattle.std.specs.Prelude.{◌≡◌, Bool, List, ℕ, length, Result}
use Rattle.rewriting.specs.Pairs.{Pair}
use Rattle.records.specs.declared.Refusal.{Refusal}
use Rattle.records.specs.Outcomes.{Outcome, refused, passed}
use Rattle.records.specs.Answers.{outcome_of}

-- the listing's refusal, or how many pairs there are
unfoldable pub count_outcome : Outcome (List Pair) → Outcome ℕ
count_outcome (refused n) = refused n
count_outcome (passed qs) = passed (length qs)

unfoldable pub ListedAs : Outcome (List Pair) → Result ℕ Refusal → Type 0
ListedAs o r = outcome_of r ≡ count_outcome o

-- yes is true, no is false
unfoldable pub ArcAs : Outcome Bool → Result Bool Refusal → Type 0
ArcAs o r = outcome_of r ≡ o
