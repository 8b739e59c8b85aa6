-- How the code reads: keys for two numbers, arrays for the pack, a state for what has been read
pub mod Keys
pub mod FromStore
pub mod Mirrored
-- what the table tells it
pub mod Standing
-- its loop: one turn, and the end
pub mod Turns
pub mod Ends
