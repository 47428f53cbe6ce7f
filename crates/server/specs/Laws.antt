-- Laws and proofs, in reading order.

-- One server's part of the memory, in reading order.
-- its layout
pub mod Layout
-- the words of locks, and what they say of each client
pub mod Lock
-- what is stored, at a prepare and at an apply
pub mod Store
-- a newly opened server
pub mod Fresh
-- what each step leaves of everything stored
pub mod Leaves
