-- How the code reads a text's tokens and names.
pub mod Told
