-- Laws and proofs, in reading order.

-- outcomes, by document 01's numbers
pub mod Outcome
-- the whole memory: head, servers' parts, clients' parts; stores and what stands after them
pub mod Whole
pub mod Stores
-- servers come and go, on examples
pub mod Servers
-- refusals 1 to 9, 11 and 13 to 15 as tables
pub mod Refusal
pub mod Refused
pub mod Passed
-- which object is checked where, and which is locked
pub mod Uses
-- objects of the store have locks
pub mod There
-- the stores of an apply lie in the server's part
pub mod Writes
-- where steps lead, one list after another
pub mod Taken
-- only the answer of a list writes to the lent output
pub mod Unlisted
