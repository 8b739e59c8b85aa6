-- What reading a file answers.
pub mod Read
