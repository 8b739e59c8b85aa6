-- For the code's own proofs: the numbers that the loop over the rules keeps, and what a text's sections come to.
pub mod Simulation
pub mod Sections
