-- Operations as plans, and what they do on a snapshot that holds a B-tree of a map.

-- objects, what a plan asks for, values, reasons, writes
pub mod Object
-- the sorted map, the seven operations on it, their answers
pub mod Map
-- a node as its entries, and what is looked up and changed in one
pub mod Entry
-- the way down, and the checks of what was read
pub mod Path
-- slots: the search in placement order, taking and freeing
pub mod Slot
-- lookup, next and previous
pub mod Look
-- insert and delete: splits, neighbours, the root's growth and collapse
pub mod Change
-- migrate
pub mod Migrate
-- the six plans, with the last check before the answer
pub mod Operation
-- THE STARRED CASES, one table; and further runs on small snapshots
pub mod Cases
pub mod Examples
-- chains of entries, counts of names, gathered pairs
pub mod Chain
-- what it means that a snapshot holds a B-tree of a map
pub mod Tree
-- the tree's pairs, read off a snapshot
pub mod Reading
-- THE THEOREMS, stated: the map's answer and a tree of the next map; no reason 3; a new store
pub mod Sound
