pub mod Answers
pub mod Rules
pub mod Promises
pub mod Readers
pub mod Lookups
pub mod PartsInside
