pub mod Length
pub mod Given
