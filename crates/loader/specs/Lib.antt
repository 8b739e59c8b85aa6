-- What the exit status says.
pub mod Status
