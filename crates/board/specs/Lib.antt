-- The vocabulary of the three-peg board, in the order of document 01: words to be believed.
pub mod Peg
pub mod Position
pub mod Move
pub mod Fewest
pub mod Reply
pub mod Refusal
pub mod Task
pub mod Legal
pub mod Held
pub mod Printed
-- What demand 1 says of the calls.
pub mod Fault
