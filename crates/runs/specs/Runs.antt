-- What a run over several pairs of files comes to: the counts, and the worst of the answers.
use Rattle.std.specs.Prelude.{◌≡◌, Bool, true, false, ◌⊎◌, Option, Some, None, Result, Ok, Err, ℕ, ◌+◌, ◌<◌}
use Rattle.lists.specs.declared.Taken.{Taken}
use Rattle.lists.specs.declared.Taken.TheVariants.{Line, Unended, Part, End}
use Rattle.records.specs.declared.Refusal.{Refusal}
use Rattle.runs.specs.declared.Tally.{Tally}
use Rattle.runs.specs.declared.Told.{Told}
use Rattle.runs.specs.declared.Told.TheVariants.{Accepted, Refused, Unread, Nothing, Lost}
use Rattle.runs.specs.declared.Ended.{Ended}
use Rattle.runs.specs.declared.Ended.TheVariants.{Good, Against, Unjudged}

-- what is told of a pair that was judged
abbrev pub told_of : Result (Unit {0}) Refusal → Told
told_of (Ok _) = Accepted
told_of (Err x) = Refused

-- a pair was told so, or its line could not be written
abbrev pub ToldAs : (due : Told) → Told → Type 0
ToldAs due r = (r ≡ due) ⊎ (r ≡ Lost)

-- something was told of a pair, or its line could not be written
abbrev pub Answered : Told → Type 0
Answered r = r ≡ Nothing → ⊥

-- something is told of each line, and nothing of its further parts
abbrev pub ToldOnce : (begun : Bool) → Taken → Told → Type 0
ToldOnce true x r = r ≡ Nothing
ToldOnce false Line r = Answered r
ToldOnce false Unended r = Answered r
ToldOnce false Part r = Answered r
ToldOnce false End r = r ≡ Nothing

-- the greatest number of 64 bits
abbrev pub greatest : ℕ
greatest = 18446744073709551615

-- how many pairs were counted
abbrev pub total : Tally → ℕ
total t = t.accepted + t.refused + t.unread

-- the counts before a pair, and after it
pub record Adds (a r u : ℕ) (before after : Tally) : Type 0 where
  pub accepted_more : after.accepted ≡ before.accepted + a
  pub refused_more : after.refused ≡ before.refused + r
  pub unread_more : after.unread ≡ before.unread + u

-- each pair is counted once, by its answer
abbrev pub Counted : (before : Tally) → Told → (after : Tally) → Type 0
Counted t Accepted s = Adds 1 0 0 t s
Counted t Refused s = Adds 0 1 0 t s
Counted t Unread s = Adds 0 0 1 t s
Counted t Nothing s = Adds 0 0 0 t s
Counted t Lost s = Adds 0 0 0 t s

-- a run ends as the worst of its pairs does, and a run over no pair has judged nothing
abbrev pub Worst : Tally → Ended → Type 0
Worst t Good = (0 < t.accepted) × (t.refused ≡ 0) × (t.unread ≡ 0)
Worst t Against = (0 < t.refused) × (t.unread ≡ 0)
Worst t Unjudged = (0 < t.unread) ⊎ (total t ≡ 0)

-- a run that was told ends so; one whose last line could not be written has judged nothing
abbrev pub Concluded : Tally → Ended → Type 0
Concluded t e = Worst t e ⊎ (e ≡ Unjudged)

-- each of n pairs was counted; there are no counts of a run that was broken off
abbrev pub AllCounted : (n : ℕ) → Option Tally → Type 0
AllCounted n (Some t) = total t ≡ n
AllCounted n None = Unit {0}

-- a run over arguments ends as its counts say; one that was broken off has judged nothing
abbrev pub RunEnds : Option Tally → Ended → Type 0
RunEnds (Some t) e = Concluded t e
RunEnds None e = e ≡ Unjudged
