-- What only the functions and the proofs of this library say to each other, to find a route's moves without the list: no promise of a call
-- uses it.
pub mod Open
pub mod Along
pub mod Stage
pub mod Aim
