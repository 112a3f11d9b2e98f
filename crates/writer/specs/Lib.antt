pub mod Encoded
pub mod Answer
pub mod Planned
pub mod Promised
