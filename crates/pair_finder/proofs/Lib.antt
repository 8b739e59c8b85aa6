-- For the code's own proofs, each beside its function.
-- the listing: places and rules one at a time, and the records in the buffer
pub mod DefinedPlaces
pub mod Written
-- a side's subterms in its bytes
pub mod Kept
pub mod Subterms
-- a pack that was read is what the functions ask for
pub mod FromStore
-- the arc question: two lists walked in step, what each walk decides, and where it starts
pub mod Walks
pub mod Comparing
pub mod Gathering
pub mod Agreeing
pub mod Asked
