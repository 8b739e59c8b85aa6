-- Linear interpretations over the naturals: polynomials, their order, the limit, and judging rules and pairs by them.
pub mod Polynomials
pub mod Values
pub mod Limit
pub mod Judging
