-- Laws of the exported functions' answers.
pub mod Apart
