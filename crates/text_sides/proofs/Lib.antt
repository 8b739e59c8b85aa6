-- For the code's own proofs: what the array keeps, what the first tokens tell, and how a list is read.
pub mod Kept
pub mod Firsts
pub mod Turns
