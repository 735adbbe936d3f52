-- What only the functions and the proofs of this library say to each other: no promise of a call uses it.
pub mod Lengths
pub mod Made
