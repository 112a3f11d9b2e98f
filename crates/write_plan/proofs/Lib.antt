pub mod SharedTexts
pub mod Premises
pub mod UseTexts
pub mod StoreAnswers
pub mod PlanSteps
pub mod Steps
