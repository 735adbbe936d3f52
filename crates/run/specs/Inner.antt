-- What Run keeps between moves, its next move, and what it writes: no promise of a call uses it.
pub mod Pegs
pub mod Stepper
pub mod Gatherer
pub mod Written
pub mod Ready
pub mod Start
