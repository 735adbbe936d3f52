-- Gatherings and spreadings as lists of moves.
pub mod Gathering
pub mod Backwards
pub mod Spreading
pub mod FirstMove
pub mod Aim
