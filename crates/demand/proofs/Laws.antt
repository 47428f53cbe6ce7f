-- Laws and proofs, in reading order.

-- document 01's example by these definitions; two wrong engines
pub mod Example
pub mod Wrong
-- WHY IT HOLDS
-- operations leave the servers' states as they are
pub mod Stays
-- the protocol at this store, with the operations' meaning
pub mod Store
-- where a transaction's objects live
pub mod Housed
-- what the memory shows of the protocol's machine, and which servers are there
pub mod Shows
pub mod There
-- what stands after stores
pub mod Frame
-- objects by their numbers
pub mod Numbers
-- a client's part that stays; its items; sets of servers
pub mod Slots
pub mod Held
pub mod Members
-- begin and give
pub mod Kept
pub mod Course
-- commit, and that homes are there
pub mod Committed
pub mod Homed
-- prepare: locks as words, checks, the move
pub mod Locking
pub mod Recorded
pub mod Servers
pub mod Checked
pub mod Prepared
-- the decision
pub mod Decided
-- apply: one write, all writes, the move
pub mod Writing
pub mod Written
pub mod Applied
-- abort and loss
pub mod Everywhere
pub mod Dropped
pub mod Aborted
pub mod Forgotten
-- copies that are stored, and renewed at the end
pub mod Placed
pub mod CopyWords
pub mod Copied
pub mod Renewed
-- work: a run of a plan; what is at hand; an object enters the read set
pub mod Ran
pub mod AtHand
pub mod Behind
pub mod Entered
-- copies in use enter the read set
pub mod Used
-- records that hold what is written, each object once; the writes enter the write set
pub mod Records
pub mod Latest
pub mod Rewritten
-- work that answers: the writes as the machine has them; the step
pub mod Overwritten
pub mod Answered
pub mod Seen
pub mod Answering
-- a new store
pub mod Opened
-- what follows for answers and tree
pub mod Answers
-- a good state, and what a step that applies nothing leaves
pub mod Turns
-- the end of a transaction
pub mod Ended
-- work that fetches: stages of a step, what is handed over
pub mod Stage
pub mod Lacking
pub mod Handed
pub mod Fetches
-- the kinds of steps before the decision
pub mod Undecided
-- a part in range stays so
pub mod InRange
-- an apply that is due
pub mod Due
-- the last apply, and the end
pub mod Applies
-- the last prepare, and the decision
pub mod Decides
-- where no apply is due
pub mod Settled
-- servers come and go: their states' bits, an added server's table, the step
pub mod Bits
pub mod Added
pub mod Coming
-- every kind of step
pub mod ByKind
-- what holds in a good state; `ranges` puts the steps together
pub mod Theorem
-- every store of a step lies in the memory
pub mod Inside
-- applies one after another
pub mod Done
-- both ears
pub mod Ears
pub mod ClassList
