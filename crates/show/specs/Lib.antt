-- What the programs print of an answer, of a position and of a session record.
pub mod Printed
