-- Laws and proofs, in reading order.

-- lines read and printed, tried on closed examples
pub mod Line
pub mod Print
-- the theorem that a line read byte by byte is read as it says (`reads`)
pub mod Reads
-- the ways out of the code
pub mod Exits
pub mod Printing
