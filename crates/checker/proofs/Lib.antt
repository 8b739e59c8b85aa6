-- For the code's own proofs.
pub mod FromRead
pub mod FromStore
pub mod Positions
pub mod Tables
pub mod Runs
pub mod Present
pub mod Verdicts
pub mod Tallies
pub mod Turns
pub mod Known
pub mod Weightings
pub mod Components
pub mod Telling
