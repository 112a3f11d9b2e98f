pub mod Definitions
pub mod Readers
