-- Laws and proofs, in reading order.

-- a transaction, and the state of clients and servers
pub mod State
-- THE PROTOCOL'S THEOREM, from the steps below
pub mod Safety
-- the interface of the operations: their meaning on one snapshot, and demand 3 as a claim on what steps and outcomes show
pub mod Meaning
-- THE CLAIM on every state that the machine reaches
pub mod Claim
-- the largest number in tables, which an added server's table takes
pub mod Largest
-- a work step, fetching or answering, as moves of the machine
pub mod Work
-- how a plan is shown, by its shape, to meet what Setting demands of it
pub mod Shape
-- operations with hints: a walk that asks for vectors too, carried over to the hinted plan
pub mod Hints
-- EXAMPLES, by computation
-- a store of two servers, a root and two leaves, with its meaning
pub mod Example
-- a run of two transactions, one of them with an apply still due
pub mod Small
-- a flag changed and changed back passes its check by value
pub mod ByValue
-- a server leaves, the other one works on alone, and the first one comes back
pub mod Coming
-- why the answers of a transaction without participants are not compared
pub mod Unchecked
-- runs with moves that the rules do not have
pub mod Variant
-- the second trap: reads checked, but not locked until the decision
pub mod Unlocked
-- servers changed while a transaction is prepared at some participants
pub mod Halfway
-- the third trap: a reused slot's version started afresh
pub mod Afresh
-- WHY THE PROTOCOL'S THEOREM HOLDS
-- the invariant, part by part, with its reasons
pub mod Invariant
-- steps that change one client's transaction alone
pub mod Put
-- begin, read, answer, commit, stamp
pub mod Working
-- where writes are locked
pub mod Locked
-- prepare
pub mod Prepare
-- what a decision does to versions and histories
pub mod History
-- decision
pub mod Decide
-- apply
pub mod Apply
-- a change of the servers
pub mod Reconfigure
-- WHY THE CLAIM FOLLOWS
-- the tests over lists of items
pub mod Items
-- the stored locks
pub mod Locks
-- the system's state from the machine's and ghosts; moves that change one slot
pub mod Ghosts
-- the prepare move
pub mod Prepared
-- the apply move
pub mod Applied
-- the change of the servers
pub mod Reconfigured
-- all moves
pub mod Explained
-- GENERAL LAWS
-- tests of all and of any elements of a list
pub mod Lists
-- a list of writes over a value
pub mod Writes
-- functions changed at one place
pub mod Changed
