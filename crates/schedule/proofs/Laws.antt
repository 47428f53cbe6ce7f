-- Laws and proofs, in reading order.

-- the walk over a list of steps; it goes on from whatever was reached; the outcomes that stand in the output
pub mod Listed
pub mod Reached
pub mod Written
-- what is promised, proved
pub mod Promise
