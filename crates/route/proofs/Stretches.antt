-- The part of the plan behind each move (02, CR 1).
pub mod Joined
pub mod Parts
pub mod Entry
pub mod Crossing
