-- The theorems about parts, with the laws that lead to them.

-- How the letters of stretches are written.
pub mod Written
-- The stretches of a course.
pub mod Stretches
-- What the call answers.
pub mod Calls
-- What request 1 asks.
pub mod Request1
