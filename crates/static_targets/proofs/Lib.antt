pub mod FoundInside
pub mod Answers
pub mod Steps
