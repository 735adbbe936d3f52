-- Where the discs are along a gathering and a spreading, and what is left of it.
pub mod Along
pub mod Middle
pub mod Spread
pub mod Entries
pub mod Passing
pub mod Front
pub mod Towers
