-- What the entries answer, from the answers of the functions that they call.
pub mod Entering
pub mod Checks
pub mod Reading
