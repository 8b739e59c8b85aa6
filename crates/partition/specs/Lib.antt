-- How the code judges 8 and 9.
pub mod Working
