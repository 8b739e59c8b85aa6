-- the entries of the records of components
pub mod Named
-- 8: as many pairs as there are, and none twice
pub mod Counted
pub mod Twice
-- 9: the lowest component of each rule, and arcs back to one
pub mod Lowest
pub mod Backward
pub mod Keys
-- the two loops over the entries
pub mod Noting
pub mod Searching
-- both, of a certificate that was read
pub mod FromRead
pub mod Ordered
