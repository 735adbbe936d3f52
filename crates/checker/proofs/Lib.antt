-- The theorems about routes sent in, with the laws that lead to them.

-- Letter pairs, and the moves that they read as.
pub mod Pairs
-- Lists of moves that are legal and lead.
pub mod Moves
-- A position kept as disc 1 and the larger discs: which moves are legal on it, and what they leave.
pub mod Small
-- A walk, move by move.
pub mod Walks
-- The discs taken off one by one.
pub mod Taken
-- The two routes of a tie differ in their first move.
pub mod First
-- What the call answers.
pub mod Calls
-- What a walk that has ended says of its letters.
pub mod Ended
-- What request 7 asks.
pub mod Request7
