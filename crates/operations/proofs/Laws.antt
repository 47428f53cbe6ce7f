-- Laws and proofs, in reading order.

-- objects, what a plan asks for, values, reasons, writes
pub mod Object
-- the sorted map, the seven operations on it, their answers
pub mod Map
-- the starred cases, and further runs on small snapshots
pub mod Cases
pub mod Examples
-- chains of entries, counts of names, gathered pairs
pub mod Chain
-- what it means that a snapshot holds a B-tree of a map
pub mod Tree
-- THEOREMS
-- the map's answer and a tree of the next map; no reason 3; a new store
pub mod Sound
-- where everything read can be stored, everything written can, and every question is about something of the store
pub mod Storable
pub mod Quiet
pub mod Storing
-- everything written was asked for
pub mod Asked
-- a compared operation has read a node that is not inner
pub mod Outer
-- the map is a function of the snapshot
pub mod Reading
-- the same for an operation with the vectors that were seen
pub mod Seen
-- an operation's writes as a test and a function
pub mod Written
-- the plans' steps on entries are these on keys and slots
pub mod Arrays
-- PROOFS
-- pairs picked by their keys
pub mod Picked
-- a node's functions go by the place of a key, the map's by comparing keys: the same where keys rise
pub mod Places
-- whether a write hits an object
pub mod Hit
-- what a plan ensures on a snapshot, whatever the vectors say
pub mod Ensures
-- what it ensures whatever is read
pub mod Along
-- a held tree as a path round a hole
pub mod Focus
-- the fewest nodes of a tree: no root of level 5
pub mod Count
-- moves on a focus
pub mod Moves
-- the map's operations on parts of the map
pub mod Maps
-- the way down on a held tree
pub mod Down
pub mod Reads
pub mod Slots
-- the way up
pub mod Rise
pub mod Grow
-- a name that occurs is a node of the tree
pub mod Found
pub mod Changes
pub mod Moved
-- the last check never fails on a held tree
pub mod Checked
