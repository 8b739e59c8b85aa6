-- How the code works out polynomials.
pub mod Table
pub mod Sums
pub mod Working
