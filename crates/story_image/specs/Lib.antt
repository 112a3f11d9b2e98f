pub mod Exported
pub mod Queries
pub mod Writing
pub mod Needed
pub mod Accepted
pub mod Numbers
