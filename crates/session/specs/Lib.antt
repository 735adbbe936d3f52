-- Sessions, in the order of document 01: words to be believed.
pub mod Counts
pub mod Record
pub mod Answer
pub mod Faults
-- The tally, which knows nothing of the record.
pub mod Tally
-- What demand 3 says of a list of calls.
pub mod Sessions
pub mod Demand3
-- What the programs print.
pub mod Printed
