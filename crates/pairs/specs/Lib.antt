-- All dependency pairs of a system, the arcs between them, and what the listing and the arc question answer.
pub mod Listing
-- what an arc asks for, and the test that decides it
pub mod Unifiers
pub mod Arcs
pub mod Answers
-- the answers as the code gives them
pub mod Says
