-- The routes of a task, in the order of documents 01 and 02: words to be believed.
pub mod Route
pub mod Part
pub mod Printed
pub mod Answer
pub mod Faults
-- What demands 2 and 3 say of the calls, and request 1 of Move.
pub mod Ours
pub mod Demand2
pub mod Annotated
-- What our own functions promise each other.
pub mod Inner
