pub mod Fields
pub mod Records
pub mod Shown
pub mod Flags
