-- Facts about certificates, in the order in which to read them: reading a certificate is the inverse of encoding it, and what
-- its refusals are.

-- lists that rise; components that can be written but for the size of their values; their records
pub mod Rising
pub mod Shapes
pub mod Encoding
-- one record; where a reading stands
pub mod OneRecord
pub mod Places
-- a whole certificate
pub mod ReadBack
pub mod OnlyEncodings
pub mod Refusals
pub mod FirstFailure
