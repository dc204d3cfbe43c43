pub mod NestedCalls
pub mod OwnTimes
