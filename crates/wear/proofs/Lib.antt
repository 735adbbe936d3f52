-- The theorems about wear, with the laws that lead to them in the order of the argument.

-- The wears of a walk sum to its length.
pub mod Total
-- Laws of wears, over any list of moves.
pub mod Wears
-- Those of gatherings and of towers.
pub mod Gatherings
-- Those of the discs below the one that crosses.
pub mod Below
-- Those of a route, by its crossings, and of one from a tower to a tower.
pub mod Crossings
pub mod Routes
pub mod Towers
-- How they are written.
pub mod Gaps
pub mod Stored
-- What the call answers.
pub mod Calls
-- What request 6 asks.
pub mod Request6
