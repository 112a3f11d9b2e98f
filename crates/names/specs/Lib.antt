pub mod Names
pub mod Spelling
pub mod Table
pub mod ControlCommand
pub mod NativeFunctionCall
