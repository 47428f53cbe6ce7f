-- What `stepshow` prints. Definitions: from the whole input, by its lines; and byte by byte, as the code reads it.
pub mod Shown
pub mod Feed
-- laws and proofs
pub mod Laws
