-- Whole-board averages (02, CR 10): words to be believed.

-- All positions and all pairs, and what is added up over them.
pub mod Positions
pub mod Totals
-- What the call answers.
pub mod Answer
pub mod Faults
-- Hinz's recurrences, and the numbers on the way.
pub mod Hinz
pub mod Terms
-- What request 10 asks of the call.
pub mod Request10
-- What the programs print.
pub mod Printed
-- What our own functions promise each other.
pub mod Inner
