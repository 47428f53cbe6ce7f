-- The store for programs in C and Rust: sizes, steps and outcomes as numbers.
pub mod Numbers
-- laws and proofs
pub mod Laws
