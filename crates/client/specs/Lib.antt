-- One client's part of the memory, and what a client does between two messages, in reading order.

-- where numbers end, and how many of a thing there may be
pub mod Bounds
-- the part's layout; nodes in words; objects as numbers and their records
pub mod Layout
pub mod Record
-- the read set, the write set, the copies; a step of the part as a list of stores
pub mod Sets
pub mod Part
-- vectors as this client sees them; what it has of an object; a plan worked on, with the limit of 96
pub mod Vectors
pub mod Have
pub mod Run
-- the lists that a walk is lent: own writes, copies in use
pub mod Lent
-- objects enter the sets; copies kept and dropped; what is fetched
pub mod Enter
pub mod Copies
pub mod Drops
pub mod Fetched
-- a transaction's life; tests of its sets; refusal 10; renewal of copies
pub mod Life
pub mod Commit
pub mod Fits
pub mod Renew
-- what a transaction has read and written, tests of all items; participants; the course of a commit
pub mod Items
pub mod Participants
pub mod Course
-- what enters the sets with the answer; the work step
pub mod Answered
pub mod Work
-- laws and proofs
pub mod Laws
