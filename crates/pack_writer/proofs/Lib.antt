-- For the code's own proofs: records in the caller's buffer, and that those made from the arrays are the pack's.
pub mod InBuffer
pub mod FromArrays
