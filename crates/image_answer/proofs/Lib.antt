pub mod Enough
pub mod Lines
pub mod Pieces
pub mod Whole
