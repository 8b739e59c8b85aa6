-- Texts of rules: their tokens, how a text is spelled, reading one, and the numbers that its names get.
pub mod Tokens
pub mod Spelling
pub mod Numbers
pub mod TextReading
pub mod GoodTexts
pub mod Says
pub mod Working
