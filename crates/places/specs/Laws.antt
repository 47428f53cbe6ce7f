-- Laws and proofs.
pub mod Branched
pub mod Asked
