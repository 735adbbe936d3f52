-- The parts of a route (02, CR 1): words to be believed.
pub mod Answer
pub mod Faults
-- What request 1 asks of the calls.
pub mod Request1
-- What our own functions promise each other.
pub mod Inner
