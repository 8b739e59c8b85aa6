-- What the code's proofs rest on. The code reads in phases, the symbols, then rule after rule, and keeps a byte a node: one
-- record at a time,
pub mod Tests
pub mod Wanted
pub mod NodeSteps
pub mod TermNodes
pub mod SymbolSteps
-- the phases,
pub mod SymbolsPhase
pub mod RulesPhase
-- the sides in bytes,
pub mod OneSide
pub mod Seen
pub mod SidesInBytes
pub mod KeptNodes
-- and the rules and the pack as they are kept.
pub mod OneRule
pub mod RulesSoFar
pub mod Flags
pub mod WholePack
