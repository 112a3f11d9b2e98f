pub mod AnswerSlices
pub mod Bits
pub mod Records
pub mod ListPlaces
pub mod ViewWords
pub mod LentSlices
pub mod Sizes
pub mod ItemNumbers
