-- Numbering the names of a text one after the other, and reading its rules: tables, one use, a side, a rule, all rules, the text.
pub mod Entries
pub mod UseSteps
pub mod UsesSoFar
pub mod OneRule
pub mod RulesSoFar
pub mod FromText
