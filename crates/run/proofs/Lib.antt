-- Laws of what Run keeps, of its next move, of what it writes, and of where it starts.
pub mod Held
pub mod Steps
pub mod Letters
pub mod Gathers
pub mod Follows
pub mod Runs
pub mod Ahead
pub mod Starting
pub mod Calls
