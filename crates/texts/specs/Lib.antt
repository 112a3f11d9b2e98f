pub mod Text
pub mod Blocks
pub mod Decimal
pub mod Dots
