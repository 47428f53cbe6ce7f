-- What every layout of words needs once, in reading order.
-- nested blocks of words that cannot overlap
pub mod Block
-- addresses with places in a block; memory as a function of addresses; records
pub mod Space
-- a step as a list of stores
pub mod Step
-- a part within the whole
pub mod Part
-- a loop of steps
pub mod Sweep
-- what the laws speak of
pub mod Laws
