-- The operations that write, walked against their plans' runs, and the whole work step.

-- changes carried up
pub mod Rise
pub mod Split
pub mod Grow
-- a node left with 6 keys
pub mod Beside
pub mod Lend
pub mod Merge
pub mod Neighbour
-- one level, and all of them
pub mod Level
-- an operation walked to its end
pub mod Operated
-- insert and delete
pub mod Up
pub mod Insert
pub mod Leaf
-- the whole work step
pub mod Work
pub mod Single
-- migrate
pub mod Move
pub mod Parent
pub mod Migrate
-- the last questions
pub mod Fit
pub mod Last
-- laws and proofs
pub mod Laws
