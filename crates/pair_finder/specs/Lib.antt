-- How the code goes through a pack that was read.
pub mod Walking
