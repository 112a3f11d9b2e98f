pub mod Notes
pub mod Promised
