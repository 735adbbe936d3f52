-- Our routes are the shortest lists of legal moves, and there are no others.
pub mod Lowering
pub mod Unique
pub mod View
pub mod Routes
pub mod Distinct
pub mod Ways
