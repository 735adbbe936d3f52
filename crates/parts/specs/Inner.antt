-- What our own functions promise each other.
pub mod Course
