pub mod Runs
pub mod Utf8
pub mod Scalars
pub mod White
pub mod Places
pub mod Seconds
