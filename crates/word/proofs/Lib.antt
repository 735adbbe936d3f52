-- Laws of a reply's number.
pub mod Apart
