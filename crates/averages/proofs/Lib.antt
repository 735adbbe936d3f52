-- The theorems about totals, with the laws that lead to them in the order of the argument.

-- Sums over lists, over all positions and over all ordered pairs.
pub mod Sums
pub mod Positions
pub mod Pairs
-- The powers in the recurrences, and the gather lengths of all positions.
pub mod Powers
pub mod Gathers
-- What the largest discs make of the two plans, from one size to the next, and Hinz's u, v, x and y.
pub mod Crossings
pub mod Hinz
-- The two totals by the recurrences.
pub mod FewestSum
pub mod TieCount
-- The terms that the code works out.
pub mod TermsFit
-- All pairs, and those that tie, as lists.
pub mod Listing
pub mod TiedPairs
-- What the call answers, and what request 10 asks.
pub mod Calls
pub mod Request10
