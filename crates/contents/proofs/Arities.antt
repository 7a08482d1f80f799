pub mod Answers
pub mod ArityWalk
