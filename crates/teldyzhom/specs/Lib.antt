-- What the public entries answer.
pub mod Entries
pub mod Kept
