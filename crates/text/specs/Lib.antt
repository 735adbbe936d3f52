-- The text that the task program reads and writes, in the order of document 01: words to be believed.
pub mod Input
pub mod Reading
pub mod Decimal
pub mod Report
pub mod Answer
pub mod Faults
-- What our own functions promise each other.
pub mod Inner
