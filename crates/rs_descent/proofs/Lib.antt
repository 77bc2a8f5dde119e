pub mod Steps
mod ConditionSteps
mod QuerySteps
mod FrontLaws
mod DropSteps
