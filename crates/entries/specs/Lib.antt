-- The pairs that a certificate names, as the code keeps them.
pub mod Entries
