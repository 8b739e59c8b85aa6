-- How the code keeps the names that VAR lists.
pub mod Table
