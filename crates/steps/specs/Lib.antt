-- What a step is and does: its outcome and what it stores, from the memory and the step alone.

-- outcomes, by document 01's numbers
pub mod Outcome
-- the whole memory: head, servers' parts, clients' parts; stores and what stands after them
pub mod Whole
-- which servers there are, and what a change of them reads
pub mod Servers
-- refusals 1 to 9, 11 and 13 to 15 as tables
pub mod Refusal
pub mod Refused
pub mod Passed
-- which object is checked where, and which is locked
pub mod Uses
-- refusal 10 at servers
pub mod Judge
-- the output that a step is lent
pub mod Output
-- the kinds of steps: outcome, stores and the pairs of a list
pub mod Steps
-- a newly opened store, and the memory after a step
pub mod Run
-- steps that were taken, with their outcomes, and where they lead
pub mod Taken
