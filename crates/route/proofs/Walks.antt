-- Walks: lists of legal moves between positions, given as the peg of each disc.
pub mod Walk
pub mod Leading
pub mod Routes
