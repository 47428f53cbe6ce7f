-- Demand 3: a list of steps, what it shows of transactions, and that one sorted map explains it.

-- what steps and outcomes show of transactions, and the map
pub mod Ledger
-- DEMAND 3, the statement
pub mod Demand
-- WRONG ENGINES that it shuts out
pub mod Wrong
-- BOTH EARS, the statement: two keys that are always written together
pub mod Ears
-- a list of a decided transaction is the map's
pub mod ClassList
