-- Laws and proofs, in reading order.

-- the part's layout; where its words lie; nodes in words; records of objects
pub mod Layout
pub mod Words
pub mod Record
pub mod Part
-- items found by their number; steps of the part, one after another
pub mod Find
pub mod Steps
-- vectors; the lent lists; a lookup in the part
pub mod Vectors
pub mod Lent
pub mod Look
-- the ways out of the code: objects enter the sets, copies, items, a commit, refusal 10, renewal
pub mod Enter
pub mod Copies
pub mod Items
pub mod Commit
pub mod Fits
pub mod Renew
-- a client's whole part in range
pub mod Ranges
-- every step stores within the part
pub mod GoodSteps
-- the definitions tried on closed examples
pub mod Samples
