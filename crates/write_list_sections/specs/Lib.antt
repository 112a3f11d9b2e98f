pub mod Entered
pub mod Put
