-- Laws of lists that the layers above use too.
pub mod Lists
-- Laws of the board's vocabulary, in the order of its definitions.
pub mod Pegs
pub mod Formed
pub mod Top
pub mod Leads
pub mod Search
pub mod Replies
pub mod Obeys
pub mod Tasks
pub mod Legality
pub mod Arrays
