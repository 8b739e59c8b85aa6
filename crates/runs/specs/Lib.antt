-- What a run over several pairs of files comes to.
pub mod Runs
