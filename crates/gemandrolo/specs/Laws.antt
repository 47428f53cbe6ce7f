-- Laws and proofs, in reading order.

-- numbers, and the ways out of the code
pub mod Numbers
-- what is reached, by the numbers that a program gets
pub mod Told
