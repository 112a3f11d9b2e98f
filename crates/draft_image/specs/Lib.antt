pub mod Strings
pub mod Written
pub mod Encode
pub mod Ready
