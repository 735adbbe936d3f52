-- Wear on each disc (02, CR 6): words to be believed.

-- How often a disc moves on a list of moves.
pub mod Wear
-- What the call answers and writes.
pub mod Answer
pub mod Faults
-- What request 6 asks of the call.
pub mod Request6
-- What our own functions promise each other.
pub mod Inner
