-- How the code reads a side.
pub mod Sides
