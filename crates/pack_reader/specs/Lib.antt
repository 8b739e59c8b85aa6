-- How the code keeps a pack that was read.
pub mod Stored
