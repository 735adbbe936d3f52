-- The table of boards, with what the documents say of each.
pub mod Table
