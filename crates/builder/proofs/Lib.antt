-- The theorems about builders, with the laws that lead to them.

-- The third peg by remainders.
pub mod Remainders
-- The three lengths, with a disc more and a disc less.
pub mod EachPeg
pub mod Gathers
-- Sound builders, and the position that each holds.
pub mod Holding
-- What the calls answer.
pub mod Calls
-- A list of changes, and the stack beside it.
pub mod Agrees
-- What request 9 asks.
pub mod Request9
