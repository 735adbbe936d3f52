-- What a reply is to the C host: words to be believed.
pub mod Words
