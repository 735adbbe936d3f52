-- The theorems about many tasks in one call, with the laws that lead to them.

-- Tasks laid end to end.
pub mod Cuts
-- What the call answers.
pub mod Calls
-- What request 5 asks.
pub mod Request5
