-- The rules of the plan, in the order of document 01: words to be believed.
pub mod Gather
pub mod Plan
pub mod Tower
pub mod Answer
pub mod Faults
pub mod Stacks
pub mod Printed
-- What our own functions promise each other.
pub mod Inner
