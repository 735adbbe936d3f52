-- Routes sent in by students (02, CR 7): words to be believed.

-- Letters of pegs, and lists of moves that are legal and lead.
pub mod Letters
pub mod Moves
-- What the call answers.
pub mod Answer
pub mod Faults
-- What request 7 asks of the call.
pub mod Request7
-- What our own functions promise each other.
pub mod Inner
