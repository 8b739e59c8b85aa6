-- Terms as their nodes in prefix order, and as the bytes in which the code keeps them.
pub mod Sides
pub mod Kept
