-- What it takes to write a pack from the arrays in which it is kept.
pub mod Writing
