pub mod Standing
pub mod Listing
pub mod Climbing
pub mod Testing
