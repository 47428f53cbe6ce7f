-- Nodes, their names and places, and the vectors of taken flags, in reading order.

-- where numbers end, and how many of a thing there may be
pub mod Bounds
-- lists with an element put in or taken out; a place that was found
pub mod Lists
pub mod Found
-- "A node name is server times 1,024 plus slot"; objects and their numbers; the table of rows by which new nodes are placed
pub mod Name
pub mod Object
pub mod Placement
pub mod Placed
-- the servers' states, and whether the metadata is in range
pub mod States
-- vectors of taken flags as words, and as lists of flags
pub mod Vector
pub mod Flags
-- a node and its lists; the place of a key, and whether it is there; the same by counting
pub mod Node
pub mod Place
pub mod Counting
-- put in, take out, split, move over, merge
pub mod Change
-- a node as 33 words; its ranges
pub mod Stored
pub mod Range
-- a node's entries; nodes that are whole
pub mod Entries
pub mod Kept
