-- The whole check, and what an accepted certificate shows.
pub mod Judges
pub mod Judge
pub mod Check
pub mod Shown
