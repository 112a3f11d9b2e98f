pub mod Reading
pub mod Rules
pub mod Writing
pub mod SameWalks
pub mod Words
