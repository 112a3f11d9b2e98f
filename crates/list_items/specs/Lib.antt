pub mod Search
pub mod Plain
