-- How the code judges.
pub mod Working
