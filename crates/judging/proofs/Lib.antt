-- What the judging of 8 to 13 and 17 means, and that what it accepts terminates; in the order in which to read it.

-- a pair that is counted once stands at one place
pub mod Once
-- the tests of 8 and 9
pub mod Tests
-- 11 to 13 and 17: the weightings of a component, one after the other
pub mod Weightings
-- 10 with them: one component, and the first component that fails
pub mod Components
-- every number of the judging, exactly
pub mod Shows
-- a judge that misses no arc and no rule: what it accepts terminates
pub mod Judged
-- the documents' judge is such a one
pub mod Plain
-- and accepts whatever document 01's arcs let pass
pub mod Fewer
pub mod Checking
