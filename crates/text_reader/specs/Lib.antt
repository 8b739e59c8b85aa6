-- How the code keeps the numbers of a text's names, and its rules.
pub mod Tables
