-- Opening a store, its work step, and one step on any memory lent.

-- a new store
pub mod Open
-- how the work step ends
pub mod Work
-- one step on any memory lent
pub mod Step
-- a store as the calls of a program have left it
pub mod Reached
-- laws and proofs
pub mod Laws
