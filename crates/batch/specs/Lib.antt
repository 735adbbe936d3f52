-- Many tasks in one call (02, CR 5): words to be believed.

-- The tasks in a buffer, and the entry of each.
pub mod Tasks
-- What the call answers and writes.
pub mod Answer
pub mod Faults
-- What request 5 asks of the call.
pub mod Request5
