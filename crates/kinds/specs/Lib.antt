-- What the code of the kinds is held to, a file for each file of src: the rules of `steps`, as they are worked out item by item.

-- the whole memory and its parts lent on; refusals 1 to 9, 11 and 13 to 15
pub mod Parts
pub mod Refusal
-- what is asked of a server's vector
pub mod Servers
-- the objects read; refusal 10 at servers, of one item and of all, and for the client's own state
pub mod Items
pub mod Judge
pub mod Fits
-- what a check finds
pub mod Findings
-- what a kind of step comes to; one store after another
pub mod Kinds
-- the locks at a server; those of an abort; a loss
pub mod Locks
pub mod Abort
pub mod Loss
-- the course of a commit at its client; the commit step
pub mod Course
-- the write set at a server; apply, prepare
pub mod Writes
pub mod Apply
pub mod Prepare
-- a work step that fetches: what it checks at the server, what it hands over
pub mod Fetch
pub mod Lack
-- a change of the servers
pub mod Change
-- laws and proofs
pub mod Laws
