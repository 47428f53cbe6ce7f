-- Laws and proofs, in reading order.

-- lists and arrays; a place that was found
pub mod Lists
pub mod Found
-- names of the store
pub mod Name
pub mod Object
-- the bits of words, and the search for a free slot
pub mod Bits
pub mod Search
-- a node's lists, the place of a key and counting, what the functions build, nodes as words, ranges, nodes where they stand
pub mod Node
pub mod Place
pub mod Counting
pub mod Built
pub mod Stored
pub mod Range
pub mod Standing
-- what each change leaves of the entries
pub mod Entries
pub mod Kept
-- the placement table, by one test that is computed
pub mod Small
pub mod Placed
-- the servers' states
pub mod States
