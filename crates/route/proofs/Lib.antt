-- The theorems about routes, with the laws that lead to them in the order of the argument.

-- Gatherings and spreadings as lists of moves.
pub mod Gatherings
-- Lists of legal moves as walks; our routes are such.
pub mod Walks
-- There are no other shortest lists.
pub mod Shortest
-- A gathering met in the middle: the move at an index, and the position there.
pub mod Along
-- A route met in the middle, by its course.
pub mod Courses
-- The part of the plan behind each move.
pub mod Stretches
-- What the calls answer.
pub mod Calls
pub mod Demand2
pub mod Annotated
