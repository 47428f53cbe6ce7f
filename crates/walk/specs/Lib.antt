-- The walk of a plan against its run over what the client has: questions, the way down, what only reads, slots.

-- how a walk is told; nodes as the plans' entries
pub mod Entries
pub mod Walk
-- a question: own writes, else the part
pub mod Ask
-- the way down from the root
pub mod Down
-- lookup; pairs found in leaves; leaves in a row
pub mod Lookup
pub mod Found
pub mod Seek
-- the operations, by their numbers
pub mod Operation
-- how a walk stops; the work step of an operation that only reads
pub mod Stopped
pub mod Look
-- own writes, slots taken and freed
pub mod Take
-- slots looked for on servers in a row
pub mod Counted
pub mod Vector
pub mod Search
-- laws and proofs
pub mod Laws
