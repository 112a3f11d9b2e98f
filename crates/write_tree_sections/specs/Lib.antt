pub mod Held
pub mod Encoded
pub mod Summed
pub mod Put
