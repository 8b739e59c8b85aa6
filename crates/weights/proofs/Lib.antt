-- For the code's own proofs: sums of coefficients, a rooted side's polynomial, and the arguments of a node.
pub mod Least
pub mod Adding
pub mod Working
pub mod Arguments
pub mod Weighing
pub mod Walking
pub mod Verdicts
