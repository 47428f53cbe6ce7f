-- A list of steps as code runs it, and what is promised of every store that was reached.

-- words, outcomes and output of a list of steps
pub mod Listed
-- WHAT IS PROMISED
pub mod Promise
