pub mod Definitions
pub mod Parts
