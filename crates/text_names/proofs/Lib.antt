-- For the code's own proofs: hashes, the order of names, the table of names, and reading the names that VAR lists.
pub mod Hashes
pub mod Order
pub mod Keeping
pub mod Listing
