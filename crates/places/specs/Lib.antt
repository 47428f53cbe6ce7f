-- The place of a key two ways, for the benchmark.
pub mod Asked
-- laws and proofs
pub mod Laws
