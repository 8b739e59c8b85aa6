-- Document 01's number and values for each case of the public answers. The check, the listing and the arc question are
-- defined in the crates below: Check.check, Answers.listing and Answers.arc_question.
use Rattle.std.specs.Prelude.{Bool, true, false, List, ℕ, Result, Ok, Err}
use Rattle.rewriting.specs.Steps.{full}
use Rattle.rewriting.specs.Chains.{Terminating, ChainsTerminating}
use Rattle.records.specs.declared.Refusal.{Refusal}
use Rattle.records.specs.Outcomes.{Outcome, refused, passed}
use Rattle.records.specs.Answers.{number_of}
use Rattle.packs.specs.PackReading.{pack_in}
use Rattle.promises.specs.Promises.{Certified}

-- What accepting means: exactly that the two files are as the documents want them; and that all chains of the pack's pairs end,
-- and all derivations from all terms over it.
pub record Accepting (accepts : Type 0) (pack certificate : List ℕ) : Type 0 where
  pub certified : accepts → Certified pack certificate
  pub no_other : Certified pack certificate → accepts
  pub chains_end : accepts → ChainsTerminating (pack_in pack) full
  pub derivations_end : accepts → Terminating (pack_in pack) full

-- accepted is 0
abbrev pub checked_number : Result (Unit {0}) Refusal → ℕ
checked_number (Ok _) = 0
checked_number (Err x) = number_of x

-- yes is 1, no is 0, and so is a refusal's value
unfoldable pub arc_value : Outcome Bool → ℕ
arc_value (refused n) = 0
arc_value (passed true) = 1
arc_value (passed false) = 0
