-- Packs: reading one with refusals 1 to 6, and encoding it; reading a term by itself.
pub mod PackReading
pub mod Encoding
pub mod PackFailures
pub mod TermReading
