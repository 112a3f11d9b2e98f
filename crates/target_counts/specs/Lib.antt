pub mod Summary
pub mod Step
