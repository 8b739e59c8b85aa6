-- For the code's own proofs: the tokens by their first byte and by places.
pub mod Tokens
pub mod Places
pub mod Names
