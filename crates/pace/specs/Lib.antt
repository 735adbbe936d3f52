-- What the timed calls answer.
pub mod Counts
