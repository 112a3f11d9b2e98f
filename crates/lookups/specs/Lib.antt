pub mod Lookup
pub mod Plain
pub mod Answers
