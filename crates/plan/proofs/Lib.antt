-- The theorems, with the laws that lead to them in the order of the argument.

-- Pegs, gather lengths, and what one move does to them.
pub mod Three
pub mod Gathering
pub mod Step
-- The plan's shortest as a distance: one move changes it by at most one, and some move lowers it.
pub mod Distance
pub mod Nearer
pub mod Moves
pub mod Lists
-- The theorems.
pub mod Optimal
pub mod Bounds
pub mod OneMove
pub mod Calls
-- What the code's proofs cite.
pub mod Parts
pub mod Sound
pub mod Fits
pub mod OnePass
pub mod Largest
