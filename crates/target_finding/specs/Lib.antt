pub mod Targets
pub mod Finding
