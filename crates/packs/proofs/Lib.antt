-- Facts about packs, in the order in which to read them: reading a pack is the inverse of encoding it, what its
-- refusals are, and that each is the first failure.
pub mod Encoding
pub mod OneRecord
pub mod Places
pub mod ReadBack
pub mod OnlyEncodings
pub mod Refusals
pub mod FirstFailure
