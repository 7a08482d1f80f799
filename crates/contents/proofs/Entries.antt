pub mod Answers
pub mod EntryWalk
