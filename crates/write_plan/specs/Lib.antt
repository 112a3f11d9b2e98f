pub mod Shared
pub mod Planned
