pub mod Points
pub mod Sums
pub mod Counting
pub mod Answers
