-- Facts about records: what a reading that passed tells, the way between bytes and records, a record as one number, the
-- kinds and their table.
pub mod Outcomes
pub mod Bytes
pub mod Words
pub mod Table
