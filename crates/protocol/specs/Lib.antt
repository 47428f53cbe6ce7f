-- The protocol: in every reachable state the decided transactions, run one after another in the order of decision, explain every compared
-- answer and what the servers store. It knows clients, copies, versions, locks, prepares and applies, and nothing of trees or bytes.

-- WHAT IS SAID
-- what the protocol is told of a store and its operations
pub mod Setting
-- a transaction, and the state of clients and servers
pub mod State
-- 01's transaction rules as a transition system
pub mod System
-- the theorem's statement: the decided transactions replayed, and the stores with the due writes counted in
pub mod Replay
-- the interface of the operations: their meaning on one snapshot, and demand 3 as a claim on what steps and outcomes show
pub mod Meaning
-- the machine for the schedule: decoded state without ghosts
pub mod Machine
-- its moves, with computed tests only
pub mod Moves
-- THE CLAIM on every state that the machine reaches
pub mod Claim
-- GENERAL LAWS
-- tests of all and of any elements of a list
pub mod Lists
-- a list of writes over a value
pub mod Writes
