-- Laws and proofs, in reading order.

-- inputs, and what they print by the definitions
pub mod Examples
-- the input fed byte by byte prints what `Shown` says of it (`whole_shown`); and so does one that is read in pieces
pub mod Whole
pub mod Pieces
-- ways out of the code
pub mod Exits
