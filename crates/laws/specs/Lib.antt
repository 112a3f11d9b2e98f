pub mod Refusal
pub mod Counted
pub mod Lists
pub mod Sorted
