-- One server's part of the memory, in reading order.
-- its layout
pub mod Layout
-- the places of the locks of objects
pub mod Object
-- the words of locks, and what they say of each client
pub mod Lock
-- the check of an object
pub mod Check
-- what is stored, at a prepare and at an apply
pub mod Store
-- what is handed out for a fetch, and what of it is out of range (refusal 10)
pub mod HandOut
-- a newly opened server
pub mod Fresh
-- laws and proofs
pub mod Laws
