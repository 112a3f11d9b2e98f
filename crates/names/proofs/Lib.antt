pub mod Distinct
pub mod Numbers
pub mod Spellings
pub mod Tables
pub mod Hashes
pub mod Commands
pub mod Operators
