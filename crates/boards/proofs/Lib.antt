-- How much Run writes.
mod Runs
-- The table holds.
pub mod Table
