pub mod Steps
pub mod ClimbLoop
