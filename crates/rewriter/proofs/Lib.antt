pub mod RefusedLaws
pub mod Unique
