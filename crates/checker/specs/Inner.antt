-- What our own functions promise each other.
pub mod Stacks
pub mod Walk
pub mod Ours
