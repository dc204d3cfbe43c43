pub mod Parts
pub mod StepKeys
pub mod Steps
pub mod ThreadCalls
pub mod ThreadLaws
pub mod inner
