-- Tasks built up disc by disc (02, CR 9): words to be believed.

-- The three gather lengths, and the builder that holds them.
pub mod Lengths
pub mod Builder
-- What the calls answer, and what they leave.
pub mod Answer
pub mod Faults
-- A list of changes, the plain stack beside it, and what request 9 says of them.
pub mod Changes
pub mod Request9
-- What our own functions promise each other.
pub mod Inner
