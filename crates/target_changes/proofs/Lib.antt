pub mod Targets
pub mod WordSteps
pub mod StaysRight
pub mod Moves
