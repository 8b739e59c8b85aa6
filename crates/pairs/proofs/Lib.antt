-- What the listing, the arcs and the answers are shown to be.
-- the listing has each pair once, and rises
pub mod Listed
-- document 01's arcs are what its sentence says
pub mod Reaching
-- terms with open places, and what they have in common
pub mod Instances
-- the test for arcs finds a unifier where there is one, and misses no next of a chain
pub mod Unifying
-- which numbers the listing and the arc question give
pub mod Ranges
-- what they answer, in order, and what the listing writes
pub mod Answering
