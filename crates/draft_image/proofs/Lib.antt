pub mod Joins
pub mod HeldTexts
pub mod Blocks
pub mod Lengths
pub mod Offsets
pub mod IndexOrder
pub mod Numbers
pub mod WorkWords
