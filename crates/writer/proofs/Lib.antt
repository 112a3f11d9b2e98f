pub mod Errors
pub mod AnswerByRule
pub mod Answers
pub mod PlanToImage
pub mod Outcomes
pub mod ImageOutput
pub mod PlannedImage
pub mod Promises
