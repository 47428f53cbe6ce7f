-- Laws and proofs, in reading order.

-- Plans: what an operation reads, one object after another, and what it then gives.
pub mod Plan
pub mod Walk
