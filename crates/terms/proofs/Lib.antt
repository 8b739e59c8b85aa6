-- Reading terms from their nodes and back; the nodes kept as bytes, and what is still to be read in a walk over them.
pub mod Parsing
pub mod Parts
pub mod Codes
pub mod Rests
