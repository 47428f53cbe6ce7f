-- Laws and proofs, in reading order.

-- a new store
pub mod Open
-- the work step: copies in use are of objects of the store; how it ends
pub mod Used
pub mod Work
-- the pairs of a list in the lent output
pub mod Output
-- one step on any memory lent
pub mod Step
-- a store that was reached
pub mod Reached
