-- Laws and proofs, in reading order.

-- tests of all elements of a list
pub mod Lists
-- what servers store, and a new store; what is written at an apply; what checks read
pub mod Servers
pub mod Stored
pub mod Checks
-- a client's part: the sets, and what is judged of them; what an operation writes to them; the fields; the copies, and their renewal; all of them, by
-- the step
pub mod Sets
pub mod Judged
pub mod Entries
pub mod Fields
pub mod Copies
pub mod Renewing
pub mod Part
-- locks: what a word says; those who hold them; locks given back; what is judged of them
pub mod Words
pub mod Locks
pub mod Unlocks
pub mod Held
-- some server is there
pub mod Attended
-- the whole from its parts; what a step must leave
pub mod Whole
-- the kinds of steps
pub mod Undecided
pub mod Applying
pub mod Preparing
-- servers come and go
pub mod Changing
-- work: what is at hand; a fetch; an answer
pub mod Hand
pub mod Fetching
pub mod Answering
-- every kind of step
pub mod Kinds
-- NO REFUSAL BY 10, proved
pub mod Theorem
