-- Demand 3, and the laws of sessions that lead to it.
pub mod Marks
pub mod Account
pub mod Fumbles
pub mod Soundness
pub mod Agrees
pub mod Calls
pub mod Sessions
pub mod Demand3
-- What the code's proofs cite.
pub mod Replays
pub mod Plays
