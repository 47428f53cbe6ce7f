-- A part of a block, of which the laws of parts speak.
pub mod Part
