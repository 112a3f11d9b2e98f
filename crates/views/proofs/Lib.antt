pub mod Reading
pub mod Tags
pub mod Answers
pub mod Given
