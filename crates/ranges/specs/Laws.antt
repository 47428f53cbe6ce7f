-- a store in which everything is in range and what is pointed to is there
pub mod Sound
