-- The numbers of document 01's table, and 15 to 24 of document 02; what the code's answers say.
use Rattle.std.specs.Prelude.{ℕ, Result, Ok, Err}
use Rattle.records.specs.declared.Refusal.{Refusal}
use Rattle.records.specs.declared.Refusal.TheVariants.{CutFile, StrayRecord, OutOfRange, BrokenSide, BareLeft, LooseVariable, NoSuchPair, PairCount, BackArc, SelfArc, Heavy, RuleRises, PairStays, ShortList, BadText, TextLimits, NoneLeaves, LostArgument, RuleStays, Full, WrongContinuation, EndsDiffer, SideSpent, NoSuchRule}
use Rattle.records.specs.Outcomes.{Outcome, refused, passed}

abbrev pub number_of : Refusal → ℕ
number_of CutFile = 1
number_of StrayRecord = 2
number_of OutOfRange = 3
number_of BrokenSide = 4
number_of BareLeft = 5
number_of LooseVariable = 6
number_of NoSuchPair = 7
number_of PairCount = 8
number_of BackArc = 9
number_of SelfArc = 10
number_of Heavy = 11
number_of RuleRises = 12
number_of PairStays = 13
number_of ShortList = 14
number_of BadText = 15
number_of TextLimits = 16
number_of NoneLeaves = 17
number_of LostArgument = 18
number_of RuleStays = 19
number_of Full = 20
number_of WrongContinuation = 21
number_of EndsDiffer = 22
number_of SideSpent = 23
number_of NoSuchRule = 24

-- what the code answers: a value, or a refusal by its number
abbrev pub outcome_of : {A : Type 0} → Result A Refusal → Outcome A
outcome_of (Ok x) = passed x
outcome_of (Err x) = refused (number_of x)
