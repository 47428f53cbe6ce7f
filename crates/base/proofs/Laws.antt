-- Laws and proofs, in reading order.

-- What every other crate's definitions use: tests, decisions, and functions changed at one place.
pub mod Test
pub mod Update
pub mod Table
