-- Laws of the texts that the task program reads and writes.
pub mod Grammar
pub mod Reading
pub mod Numbers
pub mod Page
pub mod Runs
pub mod Answers
pub mod Obeys
pub mod InFull
