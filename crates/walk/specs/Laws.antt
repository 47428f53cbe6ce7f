-- Laws and proofs, in reading order.

-- how a walk is told; nodes as the plans' entries
pub mod Entries
pub mod Walk
-- a question: own writes, else the part
pub mod Met
pub mod Ask
-- the way down from the root
pub mod Down
-- what stops a walk is no answer
pub mod Mute
-- where a walk begins; lookup; pairs found in leaves; leaves in a row
pub mod Begin
pub mod Lookup
pub mod Found
pub mod Seek
pub mod Near
-- how a walk stops; the work step of an operation that only reads
pub mod Operation
pub mod Stopped
pub mod Look
-- own writes, slots taken and freed
pub mod Own
pub mod Write
pub mod Take
-- slots looked for on servers in a row
pub mod Counted
pub mod Vector
pub mod Search
