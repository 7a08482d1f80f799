pub mod Choice
pub mod Dominators
