-- What the entering of the entries comes to, record by record.
pub mod Entering
